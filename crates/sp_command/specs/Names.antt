-- Names of files as lines show them.
use Rattle.std.specs.Prelude.{ℕ, Bool, ◌==◌, ◌&&◌, ◌||◌, nat_le}
use Rattle.std.specs.Char.{is_control}

-- A number is in the range from the first to the last.
abbrev pub is_between : (first last : ℕ) → ℕ → Bool
is_between first last c = nat_le first c && nat_le c last

-- A terminal doesn't show the character as it is: a control character; a soft hyphen; a mark, an embedding, an override or
-- an isolate of the direction; a space or a joiner without a width, or an end of a line or a paragraph; a mark of the byte order.
abbrev pub is_unprintable : ℕ → Bool
is_unprintable c = is_control c || (c == 0xAD || (c == 0x61C || (is_between 0x200B 0x200F c || (is_between 0x2028 0x202E c || (is_between 0x2060 0x206F c || c == 0xFEFF)))))
