-- The program of all commands is one of whose words `clap` says what it finds.
use Rattle.std.proofs.Common.{◌≡◌, ◌∷◌, [], true, codes, refl}
use Rattle.clap.specs.Simple.{App, is_simple}
use Rattle.sp_command.specs.Rules.{shape_with}
use Rattle.sp_order.specs.Reads.{IsProgram}
use Rattle.sp_tools.specs.Words.{check_rules, pack_rules, replay_rules, offers_rules}
use Rattle.sp_cli.specs.Words.{tree_rules, pairs_rules, matrix_rules, nearest_rules}

pub simple : (app : App)
    → IsProgram (shape_with (codes "tree") tree_rules ∷ shape_with (codes "pairs") pairs_rules ∷ shape_with (codes "matrix") matrix_rules ∷ shape_with (codes "nearest") nearest_rules
    ∷ shape_with (codes "check") check_rules ∷ shape_with (codes "pack") pack_rules ∷ shape_with (codes "replay") replay_rules ∷ shape_with (codes "offers") offers_rules ∷ []) app → is_simple app ≡ true
simple app ([], none, is) = absurd none
simple app ((w1 ∷ []), (i1, none), is) = absurd none
simple app ((w1 ∷ w2 ∷ []), (i1, (i2, none)), is) = absurd none
simple app ((w1 ∷ w2 ∷ w3 ∷ []), (i1, (i2, (i3, none))), is) = absurd none
simple app ((w1 ∷ w2 ∷ w3 ∷ w4 ∷ []), (i1, (i2, (i3, (i4, none)))), is) = absurd none
simple app ((w1 ∷ w2 ∷ w3 ∷ w4 ∷ w5 ∷ []), (i1, (i2, (i3, (i4, (i5, none))))), is) = absurd none
simple app ((w1 ∷ w2 ∷ w3 ∷ w4 ∷ w5 ∷ w6 ∷ []), (i1, (i2, (i3, (i4, (i5, (i6, none)))))), is) = absurd none
simple app ((w1 ∷ w2 ∷ w3 ∷ w4 ∷ w5 ∷ w6 ∷ w7 ∷ []), (i1, (i2, (i3, (i4, (i5, (i6, (i7, none))))))), is) = absurd none
simple app (w1 ∷ w2 ∷ w3 ∷ w4 ∷ w5 ∷ w6 ∷ w7 ∷ w8 ∷ [], ((l1, (n1, t1, e1), s1), ((l2, (n2, t2, e2), s2), ((l3, (n3, t3, e3), s3), ((l4, (n4, t4, e4), s4), ((l5, (n5, t5, e5), s5), ((l6, (n6, t6, e6), s6), ((l7, (n7, t7, e7), s7), ((l8, (n8, t8, e8), s8), all)))))))), is) = rw (is, s1, e1, s2, e2, s3, e3, s4, e4, s5, e5, s6, e6, s7, e7, s8, e8) refl
simple app (w1 ∷ w2 ∷ w3 ∷ w4 ∷ w5 ∷ w6 ∷ w7 ∷ w8 ∷ w9 ∷ more, (i1, (i2, (i3, (i4, (i5, (i6, (i7, (i8, none)))))))), is) = absurd none
