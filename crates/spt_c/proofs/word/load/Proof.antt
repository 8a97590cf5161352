-- `load` is one step on a word that the caller has alone.
use Rattle.std.proofs.Common.{◌≡◌, ℕ, ◌^◌, ◌<◌, List, [], ◌∷◌, refl, subst, lit<, w64, MutBor}
use base.Logic.{via}
use base.Fml.{Fml, ftrue, flft}
use mir.Syntax.{named}
use mir.Val.{Val, vint, vptr}
use contract.Running.{tables}
use types.Kit.{‵, raw, ◌⊛◌, at_ret, mean, ◌$◌, ◌∵◌, !, qed, done, move, keep, drop, use1, split, join, fsplit, fsplit3, fjoin, feq_i, feq_l, flt_i, rewrite, suffices, frame, group}
use types.Run.{enter, of_opd, lit, addr, stop, no_more, and_then, first, blocks, exec, Calls-last, returns}
use types.ByLocal.{alloc_all, pass_all, free_all, look_at, get, through, sets, lands_last, env}
use types.Part.{agg}
use denote.Builtin.{u64}
use denote.Exit.{yes}
use base.Fraction.{full_share}
use denote.Plain.{uint_vals, uint_Tells, uint_Makes}
use denote.RawPtr.{block_ptr}
use denote.Ref.{MutRef, mut_vals, mut_Tells}
use denote.Signature.{plain}
use denote.Steps.{nothing, owned, opens, closes, tied, ties}
use denote.Triple.Walked.{Stays, walk_of, says, stay_ref, stay_dropped, Goes-ref, Goes-dropped, ends_at}
use Rattle.std.specs.Sync.RawAtomic.{word}
use Rattle.std.proofs.raw_atomic.Walks.{proved}
use Rattle.std.proofs.raw_atomic.Calls.{fm, seq_cst, found, finds, loads}
use Rattle.spt_c.proofs.Alone.{left, alone}
use Rattle.spt_c.specs.contracts.word.load as f
use Rattle.spt_c.proofs.word.load.Statement.{statement}
use Rattle.spt_c.proofs.word.load.Code as code

abbrev stayed : Stays f.ended.signature.params f.ended.kept
stayed = (stay_ref (0 ∷ []) tt (plain (λ _. u64)), tt)

pub load_spec : {M : Type 1} → statement M
load_spec 𝓤 𝓛 𝓜 𝓡 wired =
    let c = f.clauses 𝓛 𝓜.mem 𝓡.returns in let W = walk_of 𝓛 f.ended stayed c in let 𝓣 = tables 𝓤 𝓛.H 𝓜 𝓡 𝓡.env in
    proved 𝓛 f.ended stayed c 𝓜 𝓡 (Goes-ref 𝓛 1 0 tt (plain (λ _. u64)), tt)
    f.Key.name code.function (code.unfolded 𝓤 𝓛.H 𝓜 𝓡 wired)
    (λ κs. (mut_vals, tt)) (λ κs. (mut_Tells (named 0) κs.0 u64, tt)) (λ κs qs bounds a _ are.
    let κ = κs.0 in let r = a.0 in let b = r.ref_ptr.0 in let o = r.ref_ptr.1 in let n = r.now in let vs = mut_vals r in
    let y : W.Ghost = ((κs, qs, bounds, a, (vs, tt)), tt) in
    let after : ℕ → Fml = left b o (λ k. k) n in
    qed 𝓛 (((‵ (flft κ qs.0) ⊛ ‵ ftrue) ⊛ ‵ ((MutRef (named 0) κ u64).own_val r vs) ⊛ ‵ ftrue) ∷ ‵ ftrue ∷ []) ∵
    split ! $ split ! $ move ! (2 ∷ []) $ split ! $ keep ! (0 ∷ 2 ∷ []) $
    enter ! _ _ _ _ _ $ alloc_all ! (λ l. pass_all ! refl ((tt, tt), tt) $
    fsplit3 ! $ move ! (1 ∷ 2 ∷ 3 ∷ []) $ opens ! tt u64 b o (λ us. tied ! full_share u64.mir us b o $
    -- [the word; its bound; the open borrow, in three entries]
    first ! $ blocks ! $ sets ! (addr ! (through ! refl (stop !))) refl (tt, tt) $ sets ! (of_opd ! (get ! refl)) refl (tt, tt) $
    use1 𝓛 (raw (𝓣.C _ (vptr b o ∷ seq_cst ∷ []) (λ u. mean 𝓛 (found after u))))
    (via 𝓤 _ (alone 𝓛 b o (λ k. k) n) (loads 𝓛 𝓜 𝓡 (code.calls-std::sync::atomic::raw::load 𝓡.env wired) (block_ptr b o) after)) $
    sets ! (agg ! (and_then ! (lit ! tt) (no_more !))) refl (tt, (record { fits = lit< tt }, tt)) $
    Calls-last ! (fm 𝓛 𝓜 𝓡) (found after) (and_then ! (get ! refl) (and_then ! (get ! refl) (no_more !))) (λ u. finds ! after (λ m fits.
    lands_last ! refl (tt, record { fits = fits }) $ exec ! 𝓣.C 𝓣.Λ (env code.Mir.locals l) code.Mir.t-2 (at_ret _ (W.post y)) $
    sets ! (of_opd ! (get ! refl)) refl (tt, record { fits = fits }) $
    fsplit ! $ feq_l ! (λ same. ties ! full_share u64.mir (vint w64 n ∷ []) b o $
    closes ! tt u64 n (vint w64 n ∷ []) b o $
    returns ! (look_at ! 0 refl) $ free_all ! refl $ keep ! (3 ∷ 0 ∷ 1 ∷ 2 ∷ []) $
    suffices ! _ (ends_at 𝓛 f.ended stayed c y (vint w64 m) m (n, tt) (tt, tt)) $ says ! (same, refl) $
    group ! 3 $ nothing ! $ move ! (1 ∷ 0 ∷ []) $ join ! $ nothing ! $ move ! (2 ∷ 0 ∷ []) $ join ! $ frame ! $ frame ! $
    owned ! u64 _ (uint_Makes 𝓛 w64) m _ (refl, fits) $ done !))))))
