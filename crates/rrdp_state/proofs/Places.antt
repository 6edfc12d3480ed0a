-- Files stand at paths of their own.
use Rattle.std.proofs.Common.{◌≡◌, ℕ, ◌<◌, ◌^◌, true, false, refl, sym, ◌∙◌, ap, arith, codes, decimal, List, [], ◌∷◌, ◌++◌, append_assoc, subst}
use Rattle.std.specs.Prelude.{Bool, ◌||◌, ◌==◌, nat_eq}
use Rattle.std.specs.List.{list_any}
use Rattle.std.specs.Str.{bytes_eq}
use Rattle.std.proofs.lemmas.Bool.Decides.{nat_tests}
use Rattle.std.proofs.lemmas.Fmt.{decimal_injective}
use Rattle.std.proofs.lemmas.List.{append_cancel_left, append_cancel_right, same_from_push}
use Rattle.std.proofs.lemmas.List.Folds.{list_any-append}
use Rattle.std.proofs.lemmas.Slice.Eq.{bytes_eq-Decides}
use Rattle.uuid.specs.Text.{hyphenated_text, lower}
use Rattle.rrdp_state.specs.Named.{FileName, is_same_file}
use Rattle.rrdp_state.specs.Named.FileName.{SnapshotOf, DeltaOf}
use Rattle.rrdp_state.specs.Paths.{path_in, path_of, notification_path}
use Rattle.rrdp_state.specs.Exported.{IsBeside}

abbrev pub serial_of : FileName → ℕ
serial_of (SnapshotOf n) = n
serial_of (DeltaOf n) = n

-- ---- tests of equality

pub same_bytes : (a : List ℕ) → bytes_eq a a ≡ true
same_bytes a = (bytes_eq-Decides a a).1 refl

pub bytes_are : (a b : List ℕ) → bytes_eq a b ≡ true → a ≡ b
bytes_are a b h = (bytes_eq-Decides a b).0 h

pub other_bytes : (a b : List ℕ) → (a ≡ b → ⊥) → bytes_eq a b ≡ false
other_bytes a b apart =
    elim (bytes_eq a b) as (λ t. bytes_eq a b ≡ t → t ≡ false) [
      | true ↦ λ h. absurd (apart (bytes_are a b h))
      | false ↦ λ h. refl
    ] refl

same_number : (n : ℕ) → nat_eq n n ≡ true
same_number n = grind (arith, nat_tests)

file_itself : (f : FileName) → is_same_file f f ≡ true
file_itself (SnapshotOf n) = same_number n
file_itself (DeltaOf n) = same_number n

pub same_name : (f g : FileName) → f ≡ g → is_same_file f g ≡ true
same_name f g same = subst (λ (h : FileName). is_same_file f h ≡ true) same (file_itself f)

-- ---- paths of files

serial_determined : (session name : List ℕ) (m n : ℕ) → m < 2 ^ 64 → n < 2 ^ 64 → path_in session m name ≡ path_in session n name → m ≡ n
serial_determined session name m n small fits same =
    let front : hyphenated_text lower session ++ codes "/" ++ decimal m ≡ hyphenated_text lower session ++ codes "/" ++ decimal n =
    append_cancel_right (hyphenated_text lower session ++ codes "/" ++ decimal m) (hyphenated_text lower session ++ codes "/" ++ decimal n) name same in
    decimal_injective m n small fits (append_cancel_left (hyphenated_text lower session ++ codes "/") (decimal m) (decimal n) front)

ends_apart : (xs ys : List ℕ) → xs ++ codes "/snapshot.xml" ≡ ys ++ codes "/delta.xml" → ⊥
ends_apart xs ys same =
    let whole : (xs ++ codes "/snapshot") ++ codes ".xml" ≡ (ys ++ codes "/delta") ++ codes ".xml" =
    append_assoc xs (codes "/snapshot") (codes ".xml") ∙ (same ∙ sym (append_assoc ys (codes "/delta") (codes ".xml"))) in
    let fronts : xs ++ codes "/snapshot" ≡ ys ++ codes "/delta" = append_cancel_right (xs ++ codes "/snapshot") (ys ++ codes "/delta") (codes ".xml") whole in
    let pushed : (xs ++ codes "/snapsho") ++ 116 ∷ [] ≡ (ys ++ codes "/delt") ++ 97 ∷ [] =
    append_assoc xs (codes "/snapsho") (116 ∷ []) ∙ (fronts ∙ sym (append_assoc ys (codes "/delt") (97 ∷ []))) in
    let last : ◌≡◌ {A = ℕ} 116 97 = (same_from_push (xs ++ codes "/snapsho") (ys ++ codes "/delt") 116 97 pushed).1 in
    omega arith

pub name_determined : (session : List ℕ) (f g : FileName) → serial_of f < 2 ^ 64 → serial_of g < 2 ^ 64 → path_of session f ≡ path_of session g → f ≡ g
name_determined session (SnapshotOf m) (SnapshotOf n) small fits same = ap (λ k. SnapshotOf k) (serial_determined session (codes "/snapshot.xml") m n small fits same)
name_determined session (SnapshotOf m) (DeltaOf n) small fits same = absurd (ends_apart (hyphenated_text lower session ++ codes "/" ++ decimal m) (hyphenated_text lower session ++ codes "/" ++ decimal n) same)
name_determined session (DeltaOf m) (SnapshotOf n) small fits same = absurd (ends_apart (hyphenated_text lower session ++ codes "/" ++ decimal n) (hyphenated_text lower session ++ codes "/" ++ decimal m) (sym same))
name_determined session (DeltaOf m) (DeltaOf n) small fits same = ap (λ k. DeltaOf k) (serial_determined session (codes "/delta.xml") m n small fits same)

-- ---- slashes

abbrev slashed : List ℕ → Bool
slashed path = list_any (λ byte. byte == 47) path

or_true : (b : Bool) → (b || true) ≡ true
or_true true = refl
or_true false = refl

slash_in : (session name : List ℕ) (serial : ℕ) → slashed name ≡ true → slashed (path_in session serial name) ≡ true
slash_in session name serial here =
    list_any-append (λ byte. byte == 47) (hyphenated_text lower session ++ codes "/" ++ decimal serial) name
    ∙ rw here (or_true (slashed (hyphenated_text lower session ++ codes "/" ++ decimal serial)))

slash_of : (session : List ℕ) (f : FileName) → slashed (path_of session f) ≡ true
slash_of session (SnapshotOf n) = slash_in session (codes "/snapshot.xml") n refl
slash_of session (DeltaOf n) = slash_in session (codes "/delta.xml") n refl

plain_apart : (a b : List ℕ) → slashed a ≡ true → slashed b ≡ false → a ≡ b → ⊥
plain_apart a b one other same = let h : slashed a ≡ slashed b = ap (λ p. slashed p) same in cc

-- A file's path is no path beside it, and not the notification's.
pub file_beside : (session : List ℕ) (f : FileName) (path : List ℕ) → IsBeside path → path_of session f ≡ path → ⊥
file_beside session f path is same = plain_apart (path_of session f) path (slash_of session f) is.plain same

pub file_notification : (session : List ℕ) (f : FileName) → path_of session f ≡ notification_path → ⊥
file_notification session f same = plain_apart (path_of session f) notification_path (slash_of session f) refl same
