-- The definitions at work on small texts.
use Rattle.std.proofs.Common.{◌≡◌, ℕ, List, [], ◌∷◌, refl, codes, Option, Some, None}
use Rattle.sp_text.specs.declared.faults.Kind.{Kind}
use Rattle.sp_text.specs.declared.faults.Kind.TheVariants.{BadLine, NoProblem, SecondProblem, OutOfRange, TooMany, TooFew, Read}
use Rattle.sp_text.specs.declared.faults.DimacsError.{DimacsError}
use Rattle.sp_text.specs.Lines.{ended, rest, lines, fields, is_number}
use Rattle.tests_texts.specs.Samples.{sample, usual}
use Rattle.sp_text.specs.First.{first_after, fault_so_far, fault_at_failure, fault_at_end}
use Rattle.sp_text.specs.Text.{of_form, reading_of, reading, problem_of, items_of, fault, missing, judge}

two : lines (codes "a b\nc") ≡ codes "a b" ∷ codes "c" ∷ []
unfolding lines ended rest
two = refl

one : lines (codes "a b\n") ≡ codes "a b" ∷ []
unfolding lines ended rest
one = refl

parts : fields (codes " a \t 12\r") ≡ codes "a" ∷ codes "12" ∷ []
unfolding fields
parts = refl

inner_cr : fields (codes "a\r 12") ≡ codes "a\r" ∷ codes "12" ∷ []
unfolding fields
inner_cr = refl

abbrev at : ℕ → Kind → Option DimacsError
at line kind = Some (record { line = line; kind = kind })

abbrev tells : List ℕ → Option DimacsError → Type 0
tells text answer = fault_at_end (judge sample usual) text ≡ answer

empty : tells [] (at 1 NoProblem)
unfolding fault_at_end fault_so_far fault_at_failure first_after missing fault reading reading_of of_form problem_of items_of lines ended rest fields is_number
empty = refl

begins_wrong : tells (codes "a 1 2 3\n") (at 1 NoProblem)
unfolding fault_at_end fault_so_far fault_at_failure first_after missing fault reading reading_of of_form problem_of items_of lines ended rest fields is_number
begins_wrong = refl

twice : tells (codes "p sp 1 0\np sp 1 0\n") (at 2 SecondProblem)
unfolding fault_at_end fault_so_far fault_at_failure first_after missing fault reading reading_of of_form problem_of items_of lines ended rest fields is_number
twice = refl

head_out : tells (codes "p sp 2 1\na 1 3 1\n") (at 2 (OutOfRange 86))
unfolding fault_at_end fault_so_far fault_at_failure first_after missing fault reading reading_of of_form problem_of items_of lines ended rest fields is_number
head_out = refl

leading_zero : tells (codes "p sp 2 1\na 1 2 03\n") (at 2 BadLine)
unfolding fault_at_end fault_so_far fault_at_failure first_after missing fault reading reading_of of_form problem_of items_of lines ended rest fields is_number
leading_zero = refl

length_out : tells (codes "p sp 2 1\na 1 2 4294967296\n") (at 2 (OutOfRange 87))
unfolding fault_at_end fault_so_far fault_at_failure first_after missing fault reading reading_of of_form problem_of items_of lines ended rest fields is_number
length_out = refl

leftmost : tells (codes "p sp 2 1\na 1 3 0\n") (at 2 (OutOfRange 86))
unfolding fault_at_end fault_so_far fault_at_failure first_after missing fault reading reading_of of_form problem_of items_of lines ended rest fields is_number
leftmost = refl

many_digits : tells (codes "p sp 2 1\na 1 2 99999999999999999999999\n") (at 2 (OutOfRange 87))
unfolding fault_at_end fault_so_far fault_at_failure first_after missing fault reading reading_of of_form problem_of items_of lines ended rest fields is_number
many_digits = refl

too_few : tells (codes "p sp 2 2\na 1 2 5") (at 3 TooFew)
unfolding fault_at_end fault_so_far fault_at_failure first_after missing fault reading reading_of of_form problem_of items_of lines ended rest fields is_number
too_few = refl

too_many : tells (codes "p sp 2 1\na 1 2 5\na 1 2 5\n") (at 3 TooMany)
unfolding fault_at_end fault_so_far fault_at_failure first_after missing fault reading reading_of of_form problem_of items_of lines ended rest fields is_number
too_many = refl

accepted : tells (codes "p sp 2 1\r\n \n a\t1 2 5  ") None
unfolding fault_at_end fault_so_far fault_at_failure first_after missing fault reading reading_of of_form problem_of items_of lines ended rest fields is_number
accepted = refl

named_once : tells (codes "p sp 2 0\ni 1 0 0\ni 2 0 0\n") None
unfolding fault_at_end fault_so_far fault_at_failure first_after missing fault reading reading_of of_form problem_of items_of lines ended rest fields is_number
named_once = refl

named_twice : tells (codes "p sp 2 0\ni 1 0 0\ni 1 0 0\n") (at 3 (OutOfRange 86))
unfolding fault_at_end fault_so_far fault_at_failure first_after missing fault reading reading_of of_form problem_of items_of lines ended rest fields is_number
named_twice = refl

named_before_range : tells (codes "p sp 2 0\ni 1 0 0\ni 1 68719476735 0\n") (at 3 (OutOfRange 86))
unfolding fault_at_end fault_so_far fault_at_failure first_after missing fault reading reading_of of_form problem_of items_of lines ended rest fields is_number
named_before_range = refl

out_before_named : tells (codes "p sp 2 0\ni 1 0 0\ni 2 68719476735 0\n") (at 3 (OutOfRange 68))
unfolding fault_at_end fault_so_far fault_at_failure first_after missing fault reading reading_of of_form problem_of items_of lines ended rest fields is_number
out_before_named = refl

device_failed : fault_at_failure (judge sample usual) (codes "p sp 2 1\na 1") ≡ at 2 Read
unfolding fault_at_end fault_so_far fault_at_failure first_after missing fault reading reading_of of_form problem_of items_of lines ended rest fields is_number
device_failed = refl

fault_before_failure : fault_at_failure (judge sample usual) (codes "a 1 2 3\n") ≡ at 1 NoProblem
unfolding fault_at_end fault_so_far fault_at_failure first_after missing fault reading reading_of of_form problem_of items_of lines ended rest fields is_number
fault_before_failure = refl
