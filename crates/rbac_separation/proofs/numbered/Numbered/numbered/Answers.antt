use Rattle.std.proofs.Common.{ℕ, ◌≡◌, ◌∙◌, ◌∷◌, ◌++◌, [], Some, All, sym, ap, subst}
use Rattle.std.proofs.lemmas.List.{map-append, take_more}
use Rattle.std.specs.FinMap.Entries.{find}
use Rattle.rbac_terms.specs.Name.{Name, name_cmp}
use Rattle.rbac_separation.specs.Numbered.{names_of}
use Rattle.rbac_separation.proofs.NumberLemmas.{more_both, all_more}
use Rattle.rbac_separation.proofs.numbered.Numbered.numbered.Goals as goal

pub loop-name-preserved : goal.loop-name-preserved
loop-name-preserved c =
    let items = c.loop-name.numbered.items in
    let before = c.loop-name.self.content in
    let after = c.number_of.new.self.content in
    let entry : Name × ℕ = (c.in_ok-copy.field-0, c.in_ok-number.number) in
    record {
      more = more_both _ _ _ c.loop-name.invariant.more c.number_of.ensures.more;
      names =
          ap names_of c.in_ok-push.ensures.items ∙ map-append (λ (e : Name × ℕ). e.0) items (entry ∷ [])
          ∙ (λ t. c.loop-name.invariant.names t ++ (c.in_ok-copy.ensures ∙ c.name-item.is) t ∷ [])
          ∙ sym (take_more c.args.names.now c.loop-name.name-index c.name-item.result c.loop-name-test.true);
      found =
          subst (All (λ (e : Name × ℕ). find name_cmp e.0 after ≡ Some e.1)) (sym c.in_ok-push.ensures.items)
          (all_more (λ (e : Name × ℕ). find name_cmp e.0 before ≡ Some e.1) (λ (e : Name × ℕ). find name_cmp e.0 after ≡ Some e.1) (λ e. c.number_of.ensures.more.kept e.0 e.1) items entry c.loop-name.invariant.found
          (ap (λ x. find name_cmp x after) c.in_ok-copy.ensures ∙ c.in_ok-number.ensures.found));
    }
