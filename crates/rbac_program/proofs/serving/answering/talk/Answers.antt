use Rattle.std.proofs.Common.{subst}
use Rattle.line_engine.specs.Watched.{inner_of}
use Rattle.rbac_program.specs.declared.serving.desk.PassDesk.{PassDesk}
use Rattle.rbac_program.specs.Serving.{Serves, AsksPasses}
use Rattle.rbac_program.proofs.DeskLemmas.{served_so}
use Rattle.rbac_program.proofs.serving.answering.talk.Goals as goal

pub returns-in-Ok : goal.returns-in-Ok
returns-in-Ok g c =
    let before = g.W.Write.contents (inner_of c.args.writer.now) in
    let after = g.W.Write.contents (inner_of c.converse-ended.new.writer) in
    let desk : PassDesk g.row.G.Denot g.row.K.Denot g.row.C.Denot g.row.T.Denot g.G.GroupName = record { rt = c.args.rt; service = c.args.service; passes = c.args.passes } in
    record {
      served =
          subst (λ r. Serves (g.R.Read.remaining r) before after c.args.passes.items c.converse-ended.new.desk.passes.items) c.watch.ensures.inner
          (served_so (λ (d : PassDesk g.row.G.Denot g.row.K.Denot g.row.C.Denot g.row.T.Denot g.G.GroupName). d.passes.items)
          (λ old at command reply new. AsksPasses old.passes.items at command reply new.passes.items) AsksPasses (λ old at command reply new told. told)
          (g.R.Read.remaining (inner_of c.watch.result)) before after desk c.converse-ended.new.desk c.in-Ok.field-0.refused c.in-Ok.ensures.answered);
    }
