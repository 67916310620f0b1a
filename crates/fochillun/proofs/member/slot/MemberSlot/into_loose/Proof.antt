-- `into_loose` hands what a slot owns back to the box's address.
use Rattle.std.proofs.Common.{◌≡◌, List, [], ◌∷◌, ◌++◌, refl, sym, ap, ◌∙◌, subst, Option, Some, is_some, true}
use mir.Raw.{raw as bare}
use mir.Val.{Val, vptr}
use base.Logic.{SProp, ent, emp, id⊢, never, fst∗}
use base.Fml.{ftrue}
use prog.Wp.{WpFn}
use types.Logic.{sem}
use types.Kit.{‵, raw, ◌⊛◌, ◌$◌, ◌∵◌, !, qed, by, move, keep, split, join, fsplit, suffices, use0, use1, rewrite}
use types.Run.{stop, fld, of_opd, no_more, and_then, returns, enter}
use types.ByLocal.{alloc_all, pass_all, free_all, look_at, get, get_in, sets}
use types.Part.{agg, sub, whole}
use contract.Monad.{fact, fact_i}
use contract.Running.{tables}
use denote.Exit.{yes}
use denote.RattleType.{owns}
use denote.Signature.{types_at, plain}
use denote.Memory.{lone}
use denote.RawPtr.{Ptr, block_ptr, null_ptr, in_a_block}
use denote.Steps.{nothing, heard}
use denote.Triple.Walked.{Stays, stay_dropped, walk_of, Goes-dropped}
use mir.Syntax.{impl, tnil, dnil}
use Rattle.core.proofs.alloc.Calls.{handle_tells}
use Rattle.fochillun.specs.Owned.{may_free, slot_owns}
use Rattle.fochillun.proofs.Kept.{kept_of}
use Rattle.std.specs.Box.Ownership.{box_owns}
use Rattle.std.proofs.raw_atomic.Walks.{proved_at, leaves}
use Rattle.std.specs.contracts.alloc.Global as heap
use Rattle.std.proofs.alloc.Global.TheLaws as heap_laws
use Rattle.std.specs.contracts.impls.GlobalAllocator.TheImpl.{ghosts}
use Rattle.rbac_embedded_member.specs.contracts.kept.KeptMember as held
use Rattle.loose_box.proofs.Values.{loose_good, loose_in, both}
use Rattle.fochillun.proofs.MemberValues.{Slot, word, slot_out}
use Rattle.fochillun.specs.contracts.member.slot.MemberSlot.into_loose.{ended, clauses}
use Rattle.fochillun.specs.contracts.member.slot.MemberSlot.into_loose.Key.{name as #self}
use Rattle.fochillun.proofs.member.slot.MemberSlot.into_loose.Statement.{statement}
use Rattle.fochillun.proofs.member.slot.MemberSlot.into_loose.Code as code

pub into_loose_spec : {M : Type 1} → statement M
into_loose_spec 𝓤 𝓛 𝓜 𝓡 wired =
    let H = 𝓛.H in let 𝓣 = tables 𝓤 H 𝓜 𝓡 𝓡.env in let c = clauses 𝓛 𝓜.mem 𝓡.returns in let fn = code.function in
    let hs : Stays ended.signature.params ended.kept = (stay_dropped (plain (λ _. Slot)) yes, (stay_dropped (plain (λ _. heap.the_row)) yes, tt)) in
    proved_at 𝓛 ended hs c 𝓜 𝓡 (Goes-dropped 𝓛 0 (plain (λ _. Slot)) yes (λ κs x w. refl), (Goes-dropped 𝓛 0 (plain (λ _. heap.the_row)) yes (λ κs x w. refl), tt)) #self fn (code.unfolded 𝓤 H 𝓜 𝓡 wired) (λ z are.
    let v = z.0.3.0 in let a = z.0.3.1.0 in let Post : Val → SProp 𝓤 = (walk_of 𝓛 ended hs c).post z in let Run : List Val → SProp 𝓤 = λ ws. WpFn 𝓤 H 𝓣.C 𝓣.Λ fn ws Post in
    qed 𝓛 ((‵ ftrue ⊛ ‵ (owns (types_at ended.signature.params z.0.0) z.0.3 z.0.4)) ∷ raw ((c z.0.0 z.0.3).requires z.1) ∷ []) ∵ move ! (1 ∷ []) $
    heard ! (is_some v.kept ≡ true) (λ is_held. let found = kept_of v.kept is_held in let k : held.the_row.Denot = found.0 in split ! $ keep ! (1 ∷ 0 ∷ []) $ fsplit ! $ slot_out ! v z.0.4.0 (λ ws.
    rewrite ! 0 (λ (f : Option held.the_row.Denot). ‵ (slot_owns held.the_row f v.at)) found.1 refl $
    in_a_block ! v.at (λ p. box_owns may_free held.the_row p k) (fst∗ 𝓤 (never 𝓤) (sem 𝓛 (may_free (bare (lone held.the_row.mir)) null_ptr))) (λ b o e.
    move ! (1 ∷ []) $ fsplit ! $ handle_tells (record { row = heap.the_row; laws = heap_laws.the_row_laws; g = ghosts; d = impl [] tnil dnil; drops = impl [] tnil dnil }) ! a z.0.4.1.0 (λ h eh fits.
    -- [the handle; nothing; the box; the tokens]
    let w : Val = word (block_ptr b o) in let made = loose_good held.the_row heap.the_row heap_laws.the_row_laws ghosts b o h fits in
    let passed : z.0.4.0 ++ (z.0.4.1.0 ++ []) ≡ w ∷ h ∷ [] = (λ i. ws i ++ (eh i ++ [])) ∙ ap (λ (p : Ptr). word p ∷ h ∷ []) e in
    suffices ! (Run (w ∷ h ∷ [])) (subst (λ (us : List Val). ent 𝓤 (Run (w ∷ h ∷ [])) (Run us)) (sym passed) (id⊢ 𝓤 (Run (w ∷ h ∷ [])))) $
    keep ! (2 ∷ 0 ∷ 3 ∷ []) $ use1 𝓛 (‵ (box_owns (ghosts.dealloc_token a) held.the_row (block_ptr b o) k)) (id⊢ 𝓤 _) $
    enter ! 𝓣.C 𝓣.Λ fn (w ∷ h ∷ []) Post $ alloc_all ! (λ l. pass_all ! refl ((tt, (tt, tt)), (fits, tt)) $
    sets ! (of_opd ! (get_in ! (fld ! refl (stop !)) (sub ! 0 refl (whole !)))) refl (tt, tt) $
    sets ! (of_opd ! (get ! refl)) refl (tt, tt) $
    sets ! (agg ! (and_then ! (get ! refl) (and_then ! (get ! refl) (no_more !)))) refl made $
    loose_in held.the_row heap.the_row heap_laws.the_row_laws ghosts ! b o h a k $
    use0 𝓛 (raw (fact 𝓤 (Some k ≡ v.kept))) (fact_i 𝓤 (Some k ≡ v.kept) (emp 𝓤) (sym found.1)) $ nothing ! $ nothing ! $ join ! $ nothing ! $ join ! $
    returns ! (look_at ! 0 refl) $ free_all ! refl $ keep ! (3 ∷ 0 ∷ 2 ∷ 1 ∷ []) $
    by ! (leaves 𝓛 ended hs c z (both (vptr b o) h) (record { at = block_ptr b o; alloc = a; value = k }) (tt, (tt, tt)) (tt, (tt, tt)))))))))
