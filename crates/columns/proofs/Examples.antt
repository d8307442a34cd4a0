-- Fields and a reply of document 01, computed on the definitions.
use mathlib.Core.Path.{◌≡◌, refl}
use mathlib.Core.List.{[], ◌∷◌, map}
use Rattle.std.specs.Prelude.{Some, None}
use Rattle.columns.specs.Prints.{columns, printed_field, printed_line, printed_reply}
use Rattle.columns.specs.Fields.{with_digit, with_column, columns_read, field_of}

-- "   300", "     0", "    05" (the example of refusal 1), " 65535", " 65536", 6 blanks, "   1 2", "1     ", a tab and "    1"
fields : map field_of
    ((32 ∷ 32 ∷ 32 ∷ 51 ∷ 48 ∷ 48 ∷ [])
    ∷ (32 ∷ 32 ∷ 32 ∷ 32 ∷ 32 ∷ 48 ∷ [])
    ∷ (32 ∷ 32 ∷ 32 ∷ 32 ∷ 48 ∷ 53 ∷ [])
    ∷ (32 ∷ 54 ∷ 53 ∷ 53 ∷ 51 ∷ 53 ∷ [])
    ∷ (32 ∷ 54 ∷ 53 ∷ 53 ∷ 51 ∷ 54 ∷ [])
    ∷ (32 ∷ 32 ∷ 32 ∷ 32 ∷ 32 ∷ 32 ∷ [])
    ∷ (32 ∷ 32 ∷ 32 ∷ 49 ∷ 32 ∷ 50 ∷ [])
    ∷ (49 ∷ 32 ∷ 32 ∷ 32 ∷ 32 ∷ 32 ∷ [])
    ∷ (9 ∷ 32 ∷ 32 ∷ 32 ∷ 32 ∷ 49 ∷ [])
    ∷ [])
    ≡ Some 300 ∷ Some 0 ∷ None ∷ Some 65535 ∷ None ∷ None ∷ None ∷ None ∷ None ∷ []
unfolding field_of columns_read with_column with_digit
fields = refl

-- the last reply to the document's roll: "    12     7     0"
last-reply : printed_reply 12 7 0
    ≡ 32 ∷ 32 ∷ 32 ∷ 32 ∷ 49 ∷ 50 ∷ 32 ∷ 32 ∷ 32 ∷ 32 ∷ 32 ∷ 55 ∷ 32 ∷ 32 ∷ 32 ∷ 32 ∷ 32 ∷ 48 ∷ 10 ∷ []
unfolding printed_reply printed_line printed_field columns
last-reply = refl
