use Rattle.std.proofs.Common.{rules, ◌≡◌}
use Rattle.std.specs.Io.KnownBytes.{Appends}
use Rattle.std.proofs.KnownBytes.{Appends-of_writes}
use Rattle.sp_command.proofs.Displays.{text_taken}
use Rattle.sp_command.proofs.text.print.Goals as goal

pub returns-in-Ok : goal.returns-in-Ok
returns-in-Ok g c = record {
  shown = λ text known plain.
      let written = g.W.Write.written in
      let shown = c.display_on-writer in
      let calls = text_taken (λ old part new. (new.inner.device.ghost_name ≡ old.inner.device.ghost_name) × Appends (written old.inner.device.now) (written new.inner.device.now) part) _ _ shown.result.0 shown.result.1 text known plain (search rules) shown.ensures in
      let (same, appended) = Appends-of_writes (λ s. s.inner.device.ghost_name) (λ s. written s.inner.device.now) _ text shown.result.0 calls in
      search rules;
  refused = tt;
}
