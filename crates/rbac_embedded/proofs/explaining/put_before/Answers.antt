use Rattle.rbac_embedded.proofs.explaining.put_before.Goals as goal

pub returns-in-Breach : goal.returns-in-Breach
returns-in-Breach c = rw c.in-Breach.is c.put_before_others.ensures

pub returns-in-Size : goal.returns-in-Size
returns-in-Size c = rw c.in-Size.is c.put_before_others-in-Size.ensures
