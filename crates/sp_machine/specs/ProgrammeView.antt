-- What contracts see of a programme.
use Rattle.std.specs.Prelude.{ℕ, map}
use Rattle.sp_machine.specs.Programme.{Programme}
use Rattle.sp_machine.specs.declared.programme.Programme.TheInside.{Inside}

-- This is what contracts see of a programme.
abbrev pub plan_of : {P : ℕ} → Inside P → Programme P
plan_of p = record { words = p.words; actors = p.actors; named = p.named.items; rows = map (λ row. row.items) p.rows.items }
