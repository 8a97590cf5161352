-- Grants of a slot for a round, and the rule that each is given at most once.
use Rattle.std.specs.Prelude.{◌≡◌, ℕ, ◌+◌, ◌≤◌, ◌<◌, List, [], ◌∷◌, ◌++◌, slice_index, length, ◌==◌, ◌&&◌, if◌then◌else◌}
use Rattle.sp_rounds.specs.declared.grants.Grant.{Grant}
use Rattle.sp_rounds.specs.declared.grants.GrantView.{GrantView}
use Rattle.atomic_table.specs.Table.{Step, Me}

-- This is the grant of a slot for a round.
abbrev pub grant : ℕ → ℕ → Grant
grant slot round = record { slot = slot; round = round }

-- This is the view of a claimer that has no grants.
abbrev pub nothing : GrantView
nothing = record { grants = [] }

-- This is a view with the grants of both.
abbrev pub both : GrantView → GrantView → GrantView
both v w = record { grants = v.grants ++ w.grants }

-- This counts how often the slot and round occur among the grants.
abbrev pub times : ℕ → ℕ → List Grant → ℕ
times slot round [] = 0
times slot round (g ∷ gs) = (if ((g.slot == slot) && (g.round == round)) then 1 else 0) + times slot round gs

-- This counts how often the slot and round occur among the grants of all views.
abbrev pub times_in_all : ℕ → ℕ → List GrantView → ℕ
times_in_all slot round [] = 0
times_in_all slot round (v ∷ vs) = times slot round v.grants + times_in_all slot round vs

-- No slot and round occur there twice.
abbrev pub EachOnce : List Grant → Type 0
EachOnce grants = (slot round : ℕ) → times slot round grants ≤ 1

-- This is the rule of a table of n words. Each slot and round was granted at most once, and never above the slot's
-- word; round 0 was never granted; and a word other than 0 is a round that was granted.
abbrev pub Kept : ℕ → List ℕ → List GrantView → Type 0
Kept n words views =
    (length words ≡ n)
    × ((slot round : ℕ)
    → (times_in_all slot round views ≤ 1)
    × (round ≡ 0 → times_in_all slot round views ≡ 0)
    × (slice_index words slot < round → times_in_all slot round views ≡ 0))
    × ((slot : ℕ) → 0 < slice_index words slot → times_in_all slot (slice_index words slot) views ≡ 1)

-- If the word found is below the round, the grant is new and the claimer has it; otherwise nothing changes.
abbrev pub Claimed : Step Unit → Me Unit GrantView → ℕ → Me Unit GrantView → Type 0
Claimed step before found after =
    (after.1 ≡ before.1)
    × (found < step.first → (after.0.grants ≡ grant step.word step.first ∷ before.0.grants) × (times step.word step.first before.0.grants ≡ 0))
    × (step.first ≤ found → after.0.grants ≡ before.0.grants)

-- The grants stay, and each of them occurs once.
abbrev pub Checked : Step Unit → Me Unit GrantView → ℕ → Me Unit GrantView → Type 0
Checked step before found after = (after ≡ before) × EachOnce after.0.grants
