-- `into_parts` hands on the pointer, and what it owns goes with it.
-- After the walks of `Parts` and `Sealed` in `futures`, a crate of the kit.
use Rattle.std.proofs.Common.{◌≡◌, List, [], ◌∷◌, ◌++◌, refl, sym, ap, ◌∙◌, subst}
use seplogic.Ra.Ura.{Ura}
use mathlib.Core.Bool.{true}
use mir.Raw.{raw as bare}
use mir.Val.{Val}
use base.Logic.{SProp, ent, id⊢, never, fst∗}
use base.Fml.{ftrue, fsep}
use prog.Memory.{Memory}
use prog.Routine.{Routine}
use prog.Wp.{WpFn, Tables}
use types.Logic.{Logic, sem}
use contract.Monad.{Fun, fact}
use contract.Running.{tables, tables_of}
use sound.WpLaws.{WpFn-mono}
use types.Kit.{Item, ‵, raw, ◌⊛◌, ◌$◌, ◌∵◌, !, qed, by, move, keep, drop, use1, join, split, fsplit, fsplit3, fjoin, rewrite, suffices, done}
use types.Part.{whole, sub, agg}
use types.Run.{stop, fld, no_more, and_then, of_opd, returns, enter}
use types.ByLocal.{alloc_all, pass_all, free_all, look_at, get, get_in, sets}
use denote.Exit.{yes}
use denote.RawPtr.{Ptr, block_ptr, null_ptr, in_a_block}
use denote.Signature.{type_at}
use denote.Steps.{nothing, heard}
use denote.Triple.Spec.{triple_of}
use denote.Triple.Table.{entered}
use denote.Triple.Walked.{says, Stays, stay_dropped, walk_of, ends_at, Goes-dropped, walk_Meets}
use Rattle.std.proofs.alloc.Calls.{token, handle_tells}
use Rattle.std.specs.Prelude.{is_some}
use Rattle.std.specs.declared.option.Option.{Option}
use Rattle.std.specs.Box.Ownership.{box_owns}
use Rattle.std.proofs.BoxSteps.Form.{D, B, R, τ, box_typed}
use Rattle.std.proofs.BoxSteps.Form as box
use Rattle.std.proofs.BoxSteps.Steps.{box_in}
use Rattle.std.specs.contracts.alloc.Global as Heap
use Rattle.spt_c.specs.contracts.shared.graph.SharedGraph as Shared
use Rattle.spt_c.specs.contracts.slot.Slot as slot
use Rattle.spt_c.specs.Owned.{slot_owns}
use Rattle.spt_c.proofs.SlotValue.{E, FromSlot as From, FromHeap, word, slot_out, the_some}
use Rattle.spt_c.specs.contracts.slot.Slot.into_parts as F
use Rattle.spt_c.specs.contracts.slot.Slot.into_parts.Key.{name as #self}
use Rattle.spt_c.proofs.slot.Slot.into_parts.Statement as stated
use Rattle.spt_c.proofs.slot.Slot.into_parts.Code as code

abbrev stayed : Stays (F.ended).signature.params (F.ended).kept
stayed = (stay_dropped From yes, (stay_dropped FromHeap yes, tt))

module _ {M : Type 1} {𝓤 : Ura M} (𝓛 : Logic 𝓤) (at_mem : Memory → SProp 𝓤) (run : Routine → Fun 𝓤) (𝓣 : Tables 𝓤 𝓛.H) where
  open 𝓛 use {H}

  walk : (z : (walk_of 𝓛 F.ended stayed (F.clauses 𝓛 at_mem run)).Ghost)
      → ent 𝓤 ((walk_of 𝓛 F.ended stayed (F.clauses 𝓛 at_mem run)).pre z) (WpFn 𝓤 H 𝓣.C 𝓣.Λ code.function (z.0.4.0 ++ (z.0.4.1.0 ++ [])) ((walk_of 𝓛 F.ended stayed (F.clauses 𝓛 at_mem run)).post z))
  walk z =
      let Post = (walk_of 𝓛 F.ended stayed (F.clauses 𝓛 at_mem run)).post z in
      let s = z.0.3.0 in let a = z.0.3.1.0 in
      let To = type_at (F.signature).result tt in
      qed 𝓛 ((‵ ftrue ⊛ ‵ (fsep (slot.the_row.own_val s z.0.4.0) (fsep (Heap.the_row.own_val a z.0.4.1.0) ftrue))) ∷ raw (fact 𝓤 (is_some s.shared ≡ true)) ∷ []) ∵
      move ! (1 ∷ []) $ heard ! (is_some s.shared ≡ true) (λ some. let found = the_some s.shared some in let x = found.0 in
      split ! $ drop ! $ fsplit3 ! $ slot_out ! s z.0.4.0 (λ ws.
      rewrite ! 0 (λ (held : Option Shared.the_row.Denot). ‵ (slot_owns s.at held)) found.1 refl $
      in_a_block ! s.at (λ p. box_owns (token E.al a) (R E) p x) (fst∗ 𝓤 (never 𝓤) (sem 𝓛 (token E.al a (bare (τ E)) null_ptr))) (λ b o e.
      move ! (1 ∷ []) $ handle_tells E.al ! a z.0.4.1.0 (λ hv ea fa. move ! (1 ∷ []) $ fsplit ! $ move ! (0 ∷ 1 ∷ 2 ∷ []) $
      let v : D E = record { ptr = block_ptr b o; alloc = a; value = x } in
      let made : To.Denot = record { ptr = block_ptr b o; alloc = a; value = x } in
      let w = box.word E hv b o in
      box_in E ! v b o x refl refl $ use1 𝓛 (‵ (To.own_val made (w ∷ []))) (id⊢ 𝓤 _) $ keep ! (0 ∷ []) $
      let Γ : List (Item 𝓤) = ‵ (To.own_val made (w ∷ [])) ∷ [] in
      let us : List Val = word (block_ptr b o) ∷ hv ∷ [] in
      let is = ws ∙ ap (λ (p : Ptr). word p ∷ []) e in
      by ! (subst (λ (vs : List Val). ent 𝓤 (types.Kit.⋆ 𝓛 Γ) (WpFn 𝓤 H 𝓣.C 𝓣.Λ code.function vs Post)) (sym (λ i. is i ++ (ea i ++ [])))
      (qed 𝓛 Γ ∵ enter ! 𝓣.C 𝓣.Λ code.function us _ $ alloc_all ! (λ ls. pass_all ! refl ((tt, (tt, tt)), (fa, tt)) $
      sets ! (of_opd ! (get_in ! (fld ! refl (stop !)) (sub ! 0 refl (whole !)))) refl (tt, tt) $
      sets ! (of_opd ! (get ! refl)) refl (tt, tt) $
      sets ! (agg ! (and_then ! (get ! refl) (and_then ! (get ! refl) (no_more !)))) refl (box_typed E hv b o fa) $ returns ! (look_at ! 0 refl) $ free_all ! refl $
      suffices ! _ (ends_at 𝓛 F.ended stayed (F.clauses 𝓛 at_mem run) z w made (tt, (tt, tt)) (tt, (tt, tt))) $ says ! found.1 $
      nothing ! $ nothing ! $ fjoin ! $ nothing ! $ fjoin ! $ join ! $ nothing ! $ join ! $ done !)))))))

pub into_parts_spec : {M : Type 1} → stated.statement M
unfolding tables_of
into_parts_spec 𝓤 𝓛 𝓜 𝓡 wired =
    let 𝓣 : Tables 𝓤 𝓛.H = tables_of 𝓤 𝓛.H 𝓜 (tables 𝓤 𝓛.H 𝓜 𝓡 𝓡.env) in
    entered 𝓤 𝓛.H (triple_of 𝓛 F.signature (F.spec 𝓛 𝓜.mem 𝓡.returns)) 𝓣.C 𝓣.Λ #self code.function (code.unfolded 𝓤 𝓛.H 𝓜 𝓡 wired)
    (walk_Meets 𝓛 F.ended stayed (Goes-dropped 𝓛 0 From yes (λ κs x f. refl), (Goes-dropped 𝓛 0 FromHeap yes (λ κs x f. refl), tt)) (F.clauses 𝓛 𝓜.mem 𝓡.returns) (WpFn 𝓤 𝓛.H 𝓣.C 𝓣.Λ code.function) (WpFn-mono 𝓤 𝓛.H 𝓛.laws 𝓣 code.function)
    (walk 𝓛 𝓜.mem 𝓡.returns 𝓣))
