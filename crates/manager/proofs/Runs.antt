-- One edition more in a run.
use Rattle.std.proofs.Common.{◌≡◌, List, [], ◌∷◌, ◌++◌, map, refl, sym, ◌∙◌, ap, subst, append_assoc}
use Rattle.std.proofs.lemmas.List.{map-append}
use Rattle.authority_book.specs.declared.commands.Command.{Command}
use Rattle.notice_board.specs.declared.shown.ShownEdition.{ShownEdition}
use Rattle.notice_board.specs.Lists.{serial_after, last_serial}
use Rattle.editions.specs.Edition.{Edition}
use Rattle.editions.specs.PublishedState.{PublishedStateValue}
use Rattle.manager.specs.Run.{Stood, editions_of, last_of, IsAfter, AreAfter, shown_at, shown_in}

abbrev edition_in : Stood → Edition
edition_in stood = stood.edition

abbrev shown_after : Stood → ShownEdition
shown_after stood = shown_at stood.at

pub editions_more : (before : List Edition) (run : List Stood) (stood : Stood) → before ++ editions_of (run ++ stood ∷ []) ≡ (before ++ editions_of run) ++ stood.edition ∷ []
editions_more before run stood =
    ap (λ (l : List Edition). before ++ l) (map-append edition_in run (stood ∷ [])) ∙ sym (append_assoc before (editions_of run) (stood.edition ∷ []))

pub last_more : (at : PublishedStateValue) (run : List Stood) (stood : Stood) → last_of at (run ++ stood ∷ []) ≡ stood.at
last_more at [] stood = refl
last_more at (s ∷ run) stood = last_more s.at run stood

pub after_more : (lists : List (List Command)) (before : List Edition) (run : List Stood) (stood : Stood) → AreAfter lists before run → IsAfter lists (before ++ editions_of run) stood
    → AreAfter lists before (run ++ stood ∷ [])
after_more lists before [] stood all is = (subst (λ (es : List Edition). IsAfter lists es stood) (append-nil' before) is, tt)
  where
    append-nil' : (es : List Edition) → es ++ [] ≡ es
    append-nil' [] = refl
    append-nil' (e ∷ es) = ap (λ (l : List Edition). e ∷ l) (append-nil' es)
after_more lists before (s ∷ run) stood all is =
    (all.0, after_more lists (before ++ s.edition ∷ []) run stood all.1 (subst (λ (es : List Edition). IsAfter lists es stood) (sym (append_assoc before (s.edition ∷ []) (editions_of run))) is))

pub shown_more : (at : PublishedStateValue) (run : List Stood) (stood : Stood) → shown_in at (run ++ stood ∷ []) ≡ shown_in at run ++ shown_at stood.at ∷ []
shown_more at run stood = ap (λ (l : List ShownEdition). shown_at at ∷ l) (map-append shown_after run (stood ∷ []))

-- the serial that is shown last is that of what stands after the last edition
serial_in : (at : PublishedStateValue) (run : List Stood) → serial_after at.serial (map shown_after run) ≡ (last_of at run).serial
serial_in at [] = refl
serial_in at (s ∷ run) = serial_in s.at run

pub last_serial_in : (at : PublishedStateValue) (run : List Stood) → last_serial (shown_in at run) ≡ (last_of at run).serial
last_serial_in at run = serial_in at run
