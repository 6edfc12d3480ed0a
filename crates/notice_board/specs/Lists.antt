-- Lists of editions, in the order in which they were shown.
use Rattle.std.specs.Prelude.{ℕ, Bool, true, ◌&&◌, nat_lt, List, [], ◌∷◌, Option, Some, None}
use Rattle.notice_board.specs.declared.sheets.Sheet.{Sheet}
use Rattle.notice_board.specs.declared.shown.EditionNumbers.{EditionNumbers}
use Rattle.notice_board.specs.declared.shown.ShownEdition.{ShownEdition}

-- the edition of this sheet, with these numbers
abbrev pub shown_of : Sheet → EditionNumbers → ShownEdition
shown_of sheet numbers = record { sheet = sheet; numbers = numbers }

-- the serial of the last edition, and n where there is none
abbrev pub serial_after : ℕ → List ShownEdition → ℕ
serial_after n [] = n
serial_after n (x ∷ xs) = serial_after x.sheet.serial xs

abbrev pub last_serial : List ShownEdition → ℕ
last_serial shown = serial_after 0 shown

-- the last edition, and x where there is none
abbrev pub last_after : ShownEdition → List ShownEdition → ShownEdition
last_after x [] = x
last_after x (y ∷ ys) = last_after y ys

-- the sheet of the last edition
abbrev pub last_sheet : List ShownEdition → Option Sheet
last_sheet [] = None
last_sheet (x ∷ xs) = Some (last_after x xs).sheet

-- each serial is above the one before it, the first above n
abbrev pub rises_from : ℕ → List ShownEdition → Bool
rises_from n [] = true
rises_from n (x ∷ xs) = nat_lt n x.sheet.serial && rises_from x.sheet.serial xs

-- each serial is above the one before it
abbrev pub rises : List ShownEdition → Bool
rises [] = true
rises (x ∷ xs) = rises_from x.sheet.serial xs
