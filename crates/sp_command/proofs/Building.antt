-- What `clap` reads of a command, and of the program, as they are built.
use Rattle.std.proofs.Common.{◌≡◌, ℕ, Bool, true, false, ◌&&◌, ◌||◌, not, is_some, List, [], ◌∷◌, ◌++◌, Result, IfOk, refl, sym, ap, ap₂, ◌∙◌, subst, append_assoc}
use Rattle.std.proofs.lemmas.Bool.{and_parts}
use Rattle.std.proofs.lemmas.Result.{IfOk-weaker}
use Rattle.clap.specs.Built.{AddsArg, AddsSubcommand}
use Rattle.clap.specs.Simple.{App, Shape, app_of, new_app, shape_of, with_rule, with_subcommand}
use Rattle.clap.specs.Walk.{Rule, rule_of, is_empty, is_simple_arg}
use Rattle.clap.specs.declared.builder.arg.Arg.{Arg}
use Rattle.clap.specs.declared.builder.command.Command.{Command}
use Rattle.clap.specs.declared.builder.command.Command.TheViews.{out-Command}
use Rattle.sp_command.specs.Rules.{AddsCommands, AddsRules, AreWhole, IsBuilt, IsLayoutRule, IsWhole, output_rule, shape_with, with_subcommands}

not_true : (b : Bool) → not b ≡ true → b ≡ false
not_true true is = sym is
not_true false is = refl

second : (a b : Bool) → (a && b) ≡ true → b ≡ true
second a b both = (and_parts a b both).1

tenth : (a b c d e f g h i k : Bool) → (a && (b && (c && (d && (e && (f && (g && (h && (i && not k))))))))) ≡ true → k ≡ false
tenth a b c d e f g h i k is = not_true k (second i (not k) (second h (i && not k) (second g (h && (i && not k)) (second f (g && (h && (i && not k))) (second e (f && (g && (h && (i && not k)))) (second d (e && (f && (g && (h && (i && not k))))) (second c (d && (e && (f && (g && (h && (i && not k)))))) (second b (c && (d && (e && (f && (g && (h && (i && not k))))))) (second a (b && (c && (d && (e && (f && (g && (h && (i && not k)))))))) is)))))))))

-- A simple argument is none of all commands.
local_arg : (a : Arg) → is_simple_arg a ≡ true → a.global ≡ false
local_arg a is = tenth (is_empty a.overrides.items) (is_empty a.default_vals_ifs.items) (is_empty a.groups.items) (not (is_some a.val_delim)) (not (is_some a.terminator)) (not a.allow_hyphen_values) (not a.allow_negative_numbers) (not a.require_equals) (not a.last) a.global is

-- A command with one more argument.
pub with_arg : (name : List ℕ) (rules : List Rule) (old : Command) (a : Arg) (rule : Rule) (new : Command)
    → IsBuilt name rules old → rule_of a ≡ rule → rule.is_simple ≡ true → AddsArg old a new → IsBuilt name (rules ++ rule ∷ []) new
with_arg name rules old a rule new built is simple added =
    let local : a.global ≡ false = local_arg a (ap (λ (r : Rule). r.is_simple) is ∙ simple) in
    record {
      app = added.shape local ∙ ap₂ with_rule built.app is;
      local = added.globals ∙ ap₂ (λ x y. x || y) built.local local;
    }

-- One more argument adds its rule.
pub arg_adds : (old : Command) (a : Arg) (rule : Rule) (new : Command) → rule_of a ≡ rule → rule.is_simple ≡ true → AddsArg old a new → AddsRules old (rule ∷ []) new
arg_adds old a rule new is simple adds = λ name rules built. with_arg name rules old a rule new built is simple adds

-- The same where it may be refused.
pub adds_arg : {E : Type 0} (old : Command) (a : Arg) (rule : Rule) (r : Result Command E) → rule_of a ≡ rule → rule.is_simple ≡ true → IfOk r (AddsArg old a) → IfOk r (AddsRules old (rule ∷ []))
adds_arg old a rule r is simple added = IfOk-weaker r (AddsArg old a) (AddsRules old (rule ∷ [])) (λ new adds name rules built. with_arg name rules old a rule new built is simple adds) added

-- Arguments that are added to a command behind others.
pub adds_more : (old mid new : Command) (one other : List Rule) → AddsRules old one mid → AddsRules mid other new → AddsRules old (one ++ other) new
adds_more old mid new one other first then name rules built =
    subst (λ rs. IsBuilt name rs new) (append_assoc rules one other) (then name (rules ++ one) (first name rules built))

whole_append : (own whole own' whole' : List Shape) → AreWhole own whole → AreWhole own' whole' → AreWhole (own ++ own') (whole ++ whole')
whole_append [] [] own' whole' a b = b
whole_append [] (w ∷ whole) own' whole' a b = absurd a
whole_append (o ∷ own) [] own' whole' a b = absurd a
whole_append (o ∷ own) (w ∷ whole) own' whole' (here, rest) b = (here, whole_append own whole own' whole' rest b)

subcommands_append : (app : App) (one other : List Shape) → with_subcommands app (one ++ other) ≡ with_subcommands (with_subcommands app one) other
subcommands_append app [] other = refl
subcommands_append app (shape ∷ one) other = subcommands_append (with_subcommand app shape) one other

-- Commands that are added behind others.
pub adds_both : (old mid new : Command) (one other : List Shape) → AddsCommands old one mid → AddsCommands mid other new → AddsCommands old (one ++ other) new
adds_both old mid new one other (some, some_whole, mid_is) (more, more_whole, new_is) = (
  some ++ more,
  whole_append one some other more some_whole more_whole,
  new_is ∙ (ap (λ a. with_subcommands a more) mid_is ∙ sym (subcommands_append (app_of old) some more)),
)

-- The same where the second step may be refused.
pub then_commands : {E : Type 0} (old mid : Command) (one other : List Shape) (r : Result Command E) → AddsCommands old one mid → IfOk r (AddsCommands mid other) → IfOk r (AddsCommands old (one ++ other))
then_commands old mid one other r first then = IfOk-weaker r (AddsCommands mid other) (AddsCommands old (one ++ other)) (λ new added. adds_both old mid new one other first added) then

pub then_rules : {E : Type 0} (old mid : Command) (one other : List Rule) (r : Result Command E) → AddsRules old one mid → IfOk r (AddsRules mid other) → IfOk r (AddsRules old (one ++ other))
then_rules old mid one other r first then = IfOk-weaker r (AddsRules mid other) (AddsRules old (one ++ other)) (λ new added. adds_more old mid new one other first added) then

-- A command without arguments.
pub new_built : (name : List ℕ) (command : Command) → app_of command ≡ new_app name → (out-Command command).has_globals ≡ false → IsBuilt name [] command
new_built name command is local = record { app = is; local = local }

-- A command that has the options of all commands behind its own arguments is added to the program.
adds_command : (old : Command) (name : List ℕ) (rules : List Rule) (layout : Rule) (command new : Command)
    → IsLayoutRule layout → IsBuilt name ((rules ++ layout ∷ []) ++ output_rule ∷ []) command → AddsSubcommand old command new → AddsCommands old (shape_with name rules ∷ []) new
adds_command old name rules layout command new is built added =
    let app : app_of command ≡ record { top = shape_with name (rules ++ layout ∷ output_rule ∷ []); subs = [] } =
    built.app ∙ ap (λ (rs : List Rule). record { top = shape_with name rs; subs = [] }) (append_assoc rules (layout ∷ []) (output_rule ∷ [])) in
    (shape_of command ∷ [], ((layout, is, ap (λ (a : App). a.top) app), tt), added.shape built.local)

pub then_command : {E : Type 0} (old : Command) (name : List ℕ) (rules : List Rule) (layout : Rule) (command : Command) (r : Result Command E)
    → IsLayoutRule layout → IsBuilt name ((rules ++ layout ∷ []) ++ output_rule ∷ []) command → IfOk r (AddsSubcommand old command) → IfOk r (AddsCommands old (shape_with name rules ∷ []))
then_command old name rules layout command r is built added =
    IfOk-weaker r (AddsSubcommand old command) (AddsCommands old (shape_with name rules ∷ [])) (λ new adds. adds_command old name rules layout command new is built adds) added

-- The layout's option is simple.
pub layout_simple : (rule : Rule) → IsLayoutRule rule → rule.is_simple ≡ true
layout_simple rule (names, texts, is) = ap (λ (r : Rule). r.is_simple) is
