use Rattle.std.proofs.Common.{Err, inr, subst, rules}
use Rattle.rbac_lines.specs.declared.refusal.DeskRefusal.TheVariants.{Stopped}
use Rattle.rbac_program.specs.Serving.{PassOf}
use Rattle.rbac_program.proofs.DeskLemmas.{told_so, as_stopped}
use Rattle.rbac_program.proofs.serving.desk.PassDeskDesk.call.Goals as goal

pub returns-clause-asked : goal.returns-clause-asked
returns-clause-asked g c = λ _.
    told_so c.args.self.now.passes.items c.args.at c.args.command c.ask.result c.index_mut-pass.result.now c.ask.new.pass
    (subst (λ passes. PassOf passes c.args.at) c.deref.ensures.value (c.has_pass.ensures.pass (search rules))) c.index_mut-pass.ensures.value c.ask.ensures.told

pub returns-clause-lost : goal.returns-clause-lost
returns-clause-lost g c = λ lost.
    inr (
      Err Stopped,
      (λ same. cc),
      as_stopped c.args.self.now.passes.items c.args.at c.args.command c.ask.result c.index_mut-pass.result.now c.ask.new.pass
          (subst (λ passes. PassOf passes c.args.at) c.deref.ensures.value (c.has_pass.ensures.pass (search rules))) c.index_mut-pass.ensures.value c.ask.ensures.told lost,
    )
