-- The folders of authorities' names, and the names of desks.
use Rattle.std.proofs.Common.{◌≡◌, ℕ, ◌+◌, ◌-◌, ◌&&◌, true, Option, Some, List, [], ◌++◌, length, take, drop, slice_get, All, codes, nat_eq, refl, sym, ap, subst, ◌∙◌, arith, append_assoc}
use Rattle.std.specs.Prelude.{nat_lt, nat_le}
use Rattle.std.specs.List.{list_all, starts_with, ends_with}
use Rattle.std.specs.Option.{option_map_or}
use Rattle.std.specs.Cmp.Lexicographic.{pointwise}
use Rattle.std.proofs.lemmas.Bool.{and_from, le-leb, lt-ltb}
use Rattle.std.proofs.lemmas.List.{length-append}
use Rattle.std.proofs.lemmas.List.Sums.{list_all-from_AllPass}
use Rattle.std.proofs.lemmas.Option.{slice_get_within, get_or_from_slice_get}
use Rattle.std.proofs.lemmas.Slice.Eq.{bytes_eq-Decides}
use Rattle.std.proofs.Math.Seq.{drop-append_seam, take-append_seam}
use Rattle.names.specs.Name.{IsName, is_name_byte}
use Rattle.key_ids.specs.Uris.{Bases, folder_of}
use Rattle.authority_book.specs.declared.rows.NameRow.{NameRow}
use Rattle.rp_rules.specs.Authorities.{is_folder, is_authority_name, between}
use Rattle.issue_drafts.specs.Publishers.{name_at}
use Rattle.editions.proofs.WalkLemmas.Endings.{ending}

starts : (xs ys : List ℕ) → starts_with nat_eq (xs ++ ys) xs ≡ true
starts xs ys =
    ap (pointwise nat_eq xs) (take-append_seam xs ys) ∙ (bytes_eq-Decides xs xs).1 refl

pub plain-folder : (site : Bases) (name : List ℕ) → IsName name → is_folder site (folder_of site name) ≡ true
plain-folder site name is =
    let end : List ℕ = codes "/0/" in
    let uri : List ℕ = folder_of site name in
    let regrouped : uri ≡ site.rsync ++ (name ++ end) = append_assoc site.rsync name end in
    let front : starts_with nat_eq uri site.rsync ≡ true =
    ap (λ (u : List ℕ). starts_with nat_eq u site.rsync) regrouped ∙ starts site.rsync (name ++ end) in
    let back : ends_with nat_eq uri end ≡ true = ending (site.rsync ++ name) end end refl in
    let long = length-append (site.rsync ++ name) end in
    let shorter = length-append site.rsync name in
    let count : length uri - (length site.rsync + 3) ≡ length name = omega (arith, long, shorter) in
    let middle : between (length site.rsync) 3 uri ≡ name =
    ap (λ (n : ℕ). take n (drop (length site.rsync) uri)) count
    ∙ (ap (take (length name)) (ap (drop (length site.rsync)) regrouped
    ∙ drop-append_seam site.rsync (name ++ end))
    ∙ take-append_seam name end) in
    let named : is_authority_name name ≡ true =
    and_from (nat_lt 0 (length name) && nat_le (length name) 64) (list_all is_name_byte name)
    (and_from (nat_lt 0 (length name)) (nat_le (length name) 64) (lt-ltb 0 (length name) is.not_empty)
    (le-leb (length name) 64 is.short)) (list_all-from_AllPass is_name_byte name is.plain) in
    and_from (starts_with nat_eq uri site.rsync && ends_with nat_eq uri end)
    (is_authority_name (between (length site.rsync) 3 uri))
    (and_from (starts_with nat_eq uri site.rsync) (ends_with nat_eq uri end) front back)
    (ap is_authority_name middle ∙ named)

-- The name of a desk that has one.
pub plain-name : (names : List NameRow) → All (λ row. IsName row.name) names → (desk : ℕ) (row : NameRow)
    → slice_get names desk ≡ Some row → IsName (name_at names desk)
plain-name names plain desk row named =
    subst IsName
    (ap (λ (r : NameRow). r.name) (get_or_from_slice_get names desk row row named)
    ∙ sym (ap (λ (o : Option NameRow). option_map_or (λ (n : NameRow). n.name) o []) named))
    (plain desk row (slice_get_within names desk row named))
