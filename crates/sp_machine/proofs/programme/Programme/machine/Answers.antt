use Rattle.std.proofs.Common.{ℕ, ap, ◌∙◌, length, replicate}
use Rattle.std.proofs.lemmas.List.{length-replicate}
use Rattle.sp_machine.specs.Step.{fresh_actor}
use Rattle.sp_machine.proofs.ActorSteps.{opens}
use Rattle.sp_machine.proofs.programme.Programme.machine.Goals as goal

pub invariant_of-result : goal.invariant_of-result
invariant_of-result g c =
    opens c.args.self.now _ _ _ c.words.ensures.layout (rw c.words.ensures.words at c.words.ensures.range)
    (c.name_words.ensures.length ∙ ap length c.in_ok-words.ensures ∙ length-replicate _ _ ∙ c.words.ensures.words)
    (c.in_ok-actors.ensures ∙ ap (λ (n : ℕ). replicate n fresh_actor) c.actors.ensures.actors)
