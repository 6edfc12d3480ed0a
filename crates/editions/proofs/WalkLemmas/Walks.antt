-- The walk below a key visits the keys below it, level by level, and what each lists.
use Rattle.std.proofs.Common.{◌≡◌, ◌≢◌, ◌⊎◌, ℕ, zero, suc, Bool, true, false, cond, List, [], ◌∷◌, ◌++◌, map, filter, IsPermutation, Ok, refl, sym, ap, subst, ◌∙◌, append-nil, append_assoc, inl, inr}
use Rattle.std.specs.List.{flat_map}
use Rattle.std.specs.Str.{bytes_eq}
use Rattle.std.proofs.lemmas.Bool.{false_from_ne_true}
use Rattle.std.proofs.lemmas.List.Concat.{flat_map-append}
use Rattle.std.proofs.lemmas.List.Sorted.{IsPermutation-refl, IsPermutation-trans, IsPermutation-sym, IsPermutation-append_right, IsPermutation-cons}
use Rattle.std.proofs.lemmas.Slice.Eq.{bytes_eq-Decides}
use Rattle.pub_set.specs.Changes.{Contents}
use Rattle.rp_rules.specs.Checks.{Checked, ◌>>=◌}
use Rattle.rp_rules.specs.Objects.{SignedRoa}
use Rattle.rp_rules.specs.Authorities.{Authority, listed_uri, crl_uri_of, manifest_place}
use Rattle.rp_rules.specs.Certificates.{WalkContext, File, is_among, accepted_authority}
use Rattle.rp_rules.specs.Points.{Point, other_files, accepted_point, accepted_roa}
use Rattle.rp_rules.specs.Walk.{Visit, Certificate, Published, Route, Below, uris_of, visited, visit_file, visit_files, visit_below}
use Rattle.items.specs.laws.AmongLaws.{In, in-front, in-behind, in-parts, map-in, in-permuted, in-any, filter-in}
use Rattle.items.specs.laws.PairLaws.{Each, Twos}
use Rattle.editions.proofs.WalkLemmas.Elements.{each-in}
use Rattle.editions.proofs.WalkLemmas.Moved.{flat-moved, flat-each, flat-flat, flat-parts}
use Rattle.editions.proofs.WalkLemmas.Forest.{order}
use Rattle.editions.proofs.WalkLemmas.Points.{file_by, ArePoints}

abbrev pub AreApart : List (List ℕ) → Type 0
AreApart uris = Twos (λ a b. a ≢ b) uris

-- ---- what isn't visited yet

apart-before : (xs ys : List (List ℕ)) (x y : List ℕ) → AreApart (xs ++ ys) → In x xs → In y ys → x ≢ y
apart-before [] ys x y apart at there = absurd at
apart-before (z ∷ xs) ys x y apart (inl same) there =
    subst (λ (w : List ℕ). w ≢ y) same
    (each-in (λ (w : List ℕ). z ≢ w) y (xs ++ ys) apart.0 (in-behind y xs ys there))
apart-before (z ∷ xs) ys x y apart (inr at) there = apart-before xs ys x y apart.1 at there

unvisited : (seen rest : List (List ℕ)) (uri : List ℕ) → AreApart (seen ++ rest) → In uri rest
    → is_among seen uri ≡ false
unvisited seen rest uri apart at = false_from_ne_true (is_among seen uri) (λ yes.
    let w = in-any (λ (other : List ℕ). bytes_eq other uri) seen yes in
    apart-before seen rest w.0 uri apart w.1 at ((bytes_eq-Decides w.0 uri).0 w.2))

apart-front : (xs ys : List (List ℕ)) → AreApart (xs ++ ys) → AreApart xs
apart-front [] ys apart = tt
apart-front (x ∷ xs) ys apart = (each-front xs apart.0, apart-front xs ys apart.1)
  where
    each-front : (zs : List (List ℕ)) → Each (λ (w : List ℕ). x ≢ w) (zs ++ ys)
        → Each (λ (w : List ℕ). x ≢ w) zs
    each-front [] each = tt
    each-front (z ∷ zs) each = (each.0, each-front zs each.1)

visited-append : (one two : List Visit) → visited (one ++ two) ≡ visited one ++ visited two
visited-append one two = flat_map-append uris_of one two

-- The visits behind those that are made already.
new-at : (seen rest : List Visit) (uri : List ℕ) → AreApart (visited (seen ++ rest)) → In uri (visited rest)
    → is_among (visited seen) uri ≡ false
new-at seen rest uri apart at =
    unvisited (visited seen) (visited rest) uri (subst AreApart (visited-append seen rest) apart) at

front-apart : (one two : List Visit) → AreApart (visited (one ++ two)) → AreApart (visited one)
front-apart one two apart =
    apart-front (visited one) (visited two) (subst AreApart (visited-append one two) apart)

pub handed : {A B : Type 0} (r : Checked A) (x : A) (f : A → Checked B) → r ≡ Ok x → (r >>= f) ≡ f x
handed {A} r x f is = ap (λ (c : Checked A). c >>= f) is

-- ---- the walk

module _ {K O : Type 0} (s : WalkContext) (held : Contents) (keys : List K) (owed : List O)
    (is_below : K → K → Bool) (is_under : K → O → Bool)
    (points : ArePoints s held keys owed is_below is_under) where
  abbrev pub below : K → List K
  below k = filter (is_below k) keys

  abbrev pub under : K → List O
  under k = filter (is_under k) owed

  abbrev file : K ⊎ O → File
  file = file_by points.of_key points.of_origin

  -- The visit of an entry itself.
  abbrev pub visit_of : K → K ⊎ O → Visit
  visit_of k (inl c) = Certificate (points.authority c)
  visit_of k (inr o) = Route (points.authority k) (points.place o) (points.roa o)

  abbrev below_by : (K → List Visit) → K ⊎ O → List Visit
  below_by sub (inl c) = sub c
  below_by sub (inr o) = []

  -- What is visited below a key, with so many levels left.
  unfoldable pub subtree : ℕ → K → List Visit
  subtree zero k = []
  subtree (suc n) k = Published (points.point k)
      ∷ flat_map (λ e. visit_of k e ∷ below_by (subtree n) e) (points.entries k)

  -- The levels that are left are enough.
  abbrev pub IsDeep : ℕ → K → Type 0
  IsDeep zero k = ⊥
  IsDeep (suc n) k = Each (IsDeep n) (below k)

  -- An entry of a key.
  abbrev IsEntry : K → K ⊎ O → Type 0
  IsEntry k (inl c) = In c (below k)
  IsEntry k (inr o) = is_under k o ≡ true

  entry-is : (k : K) (e : K ⊎ O) → In e (points.entries k) → IsEntry k e
  entry-is k e at =
      by e (in-parts e (map inl (below k)) (map inr (under k))
      (in-permuted e (points.entries k) (map inl (below k) ++ map inr (under k))
      (IsPermutation-sym (map inl (below k) ++ map inr (under k)) (points.entries k) (points.all k)) at))
    where
      by : (e : K ⊎ O) → In e (map inl (below k)) ⊎ In e (map inr (under k)) → IsEntry k e
      by e (inl front) =
          let w = map-in inl e (below k) front in
          subst (IsEntry k) w.2 w.1
      by e (inr behind) =
          let w = map-in inr e (under k) behind in
          subst (IsEntry k) w.2 (filter-in (is_under k) w.0 owed w.1).1

  -- How the walk goes on below a key.
  abbrev Goes : ℕ → K → Type 0
  Goes n k = (seen : List Visit) → AreApart (visited (seen ++ subtree n k))
      → visit_below n s held (points.authority k) seen ≡ Ok (seen ++ subtree n k)

  append-step : (seen : List Visit) (v : Visit) (rest : List Visit)
      → (seen ++ v ∷ []) ++ rest ≡ seen ++ v ∷ rest
  append-step seen v rest = append_assoc seen (v ∷ []) rest

  -- One file.
  visit-key : (n : ℕ) (k c : K) → is_below k c ≡ true → Goes n c → (seen : List Visit)
      → AreApart (visited (seen ++ Certificate (points.authority c) ∷ subtree n c))
      → visit_file s held (visit_below n s held) (points.point k) (points.of_key c) seen
      ≡ Ok (seen ++ Certificate (points.authority c) ∷ subtree n c)
  unfolding visit_file
  visit-key n k c is goes seen apart =
      let visit : Visit = Certificate (points.authority c) in
      let on : Authority → Checked (List Visit) = λ child.
      visit_below n s held child (seen ++ Certificate child ∷ []) in
      let by_authority : Authority → Checked Authority = λ a.
      accepted_authority s held a (points.point k).crl.entries (visited seen) (points.of_key c) in
      let new = new-at seen (visit ∷ subtree n c) (points.authority c).uri apart (inl refl) in
      ap (λ (b : Bool). cond b (by_authority (points.point k).authority >>= on)
      (accepted_roa s held (points.point k) (visited seen) (points.of_key c) >>= (λ roa.
      Ok (seen ++ Route (points.point k).authority
      (listed_uri (points.point k).authority (points.of_key c).0) roa ∷ [])))) (points.key_kind c)
      ∙ (handed (by_authority (points.point k).authority) (points.authority c) on
      (ap by_authority (points.above k) ∙ points.key_accepted k c is (visited seen) new)
      ∙ (goes (seen ++ visit ∷ [])
      (subst (λ (vs : List Visit). AreApart (visited vs)) (sym (append-step seen visit (subtree n c))) apart)
      ∙ ap (λ (vs : List Visit). Ok vs) (append-step seen visit (subtree n c))))

  visit-origin : (below_key : Below) (k : K) (o : O) → is_under k o ≡ true → (seen : List Visit)
      → AreApart (visited (seen ++ visit_of k (inr o) ∷ []))
      → visit_file s held below_key (points.point k) (points.of_origin o) seen
      ≡ Ok (seen ++ visit_of k (inr o) ∷ [])
  unfolding visit_file
  visit-origin below_key k o is seen apart =
      let of : Authority → List ℕ → Checked (List Visit) = λ a uri.
      Ok (seen ++ Route a uri (points.roa o) ∷ []) in
      let on : SignedRoa → Checked (List Visit) = λ roa.
      Ok (seen ++ Route (points.point k).authority
      (listed_uri (points.point k).authority (points.of_origin o).0) roa ∷ []) in
      let new = new-at seen (visit_of k (inr o) ∷ []) (points.place o) apart (inl refl) in
      ap (λ (b : Bool). cond b
      (accepted_authority s held (points.point k).authority (points.point k).crl.entries (visited seen)
      (points.of_origin o) >>= (λ child. below_key child (seen ++ Certificate child ∷ [])))
      (accepted_roa s held (points.point k) (visited seen) (points.of_origin o) >>= on))
      (points.origin_kind o)
      ∙ (handed (accepted_roa s held (points.point k) (visited seen) (points.of_origin o)) (points.roa o)
      on (points.origin_accepted k o is (visited seen) new)
      ∙ (ap (λ (a : Authority). of a (listed_uri a (points.of_origin o).0)) (points.above k)
      ∙ ap (of (points.authority k)) (points.origin_place k o is)))

  -- One file after another.
  visits_from : ℕ → K → List (K ⊎ O) → List Visit
  visits_from n k es = flat_map (λ e. visit_of k e ∷ below_by (subtree n) e) es

  visit-entries : (n : ℕ) (k : K) → ((c : K) → In c (below k) → Goes n c) → (es : List (K ⊎ O))
      → ((e : K ⊎ O) → In e es → IsEntry k e) → (seen : List Visit)
      → AreApart (visited (seen ++ visits_from n k es))
      → visit_files s held (visit_below n s held) (points.point k) (map file es) seen
      ≡ Ok (seen ++ visits_from n k es)
  unfolding visit_files visits_from
  visit-entries n k goes [] are seen apart = ap (λ (vs : List Visit). Ok vs) (sym (append-nil seen))
  visit-entries n k goes (e ∷ es) are seen apart =
      let first : List Visit = visit_of k e ∷ below_by (subtree n) e in
      let rest : List Visit = visits_from n k es in
      let regroup : seen ++ (first ++ rest) ≡ (seen ++ first) ++ rest = sym (append_assoc seen first rest) in
      let all : AreApart (visited ((seen ++ first) ++ rest)) =
      subst (λ (vs : List Visit). AreApart (visited vs)) regroup apart in
      handed (visit_file s held (visit_below n s held) (points.point k) (file e) seen) (seen ++ first)
      (visit_files s held (visit_below n s held) (points.point k) (map file es))
      (by e (are e (inl refl)) (front-apart (seen ++ first) rest all))
      ∙ (visit-entries n k goes es (λ f at. are f (inr at)) (seen ++ first) all
      ∙ ap (λ (vs : List Visit). Ok vs) (sym regroup))
    where
      by : (e : K ⊎ O) → IsEntry k e
          → AreApart (visited (seen ++ visit_of k e ∷ below_by (subtree n) e))
          → visit_file s held (visit_below n s held) (points.point k) (file e) seen
          ≡ Ok (seen ++ visit_of k e ∷ below_by (subtree n) e)
      by (inl c) is apart = visit-key n k c (filter-in (is_below k) c keys is).1 (goes c is) seen apart
      by (inr o) is apart = visit-origin (visit_below n s held) k o is seen apart

  -- All below a key, where the levels are enough.
  pub walk-below : (n : ℕ) (k : K) → IsDeep n k → Goes n k
  unfolding visit_below subtree visits_from
  walk-below zero k deep = absurd deep
  walk-below (suc n) k deep = λ seen apart.
      let rest : List Visit = visits_from n k (points.entries k) in
      let p : Point = points.point k in
      let authority : Authority = points.authority k in
      let on : Point → Checked (List Visit) = λ q.
      visit_files s held (visit_below n s held) q (other_files q) (seen ++ Published q ∷ []) in
      let place : (uri : List ℕ) → In uri (uris_of (Published p)) → In uri (visited (Published p ∷ rest)) =
      λ uri at. in-front uri (uris_of (Published p)) (visited rest) at in
      let manifest = new-at seen (Published p ∷ rest) (manifest_place p.authority) apart
      (place (manifest_place p.authority) (inl refl)) in
      let crl = new-at seen (Published p ∷ rest) (crl_uri_of p.authority) apart
      (place (crl_uri_of p.authority) (inr (inl refl))) in
      handed (accepted_point s held authority (visited seen)) p on
      (points.accepted k (visited seen)
      (subst (λ (a : Authority). is_among (visited seen) (manifest_place a) ≡ false) (points.above k) manifest)
      (subst (λ (a : Authority). is_among (visited seen) (crl_uri_of a) ≡ false) (points.above k) crl))
      ∙ (ap (λ (fs : List File). visit_files s held (visit_below n s held) p fs (seen ++ Published p ∷ []))
      (points.files k)
      ∙ (visit-entries n k (λ c at. walk-below n c (each-in (IsDeep n) c (below k) deep at))
      (points.entries k) (entry-is k) (seen ++ Published p ∷ [])
      (subst (λ (vs : List Visit). AreApart (visited vs)) (sym (append-step seen (Published p) rest)) apart)
      ∙ ap (λ (vs : List Visit). Ok vs) (append-step seen (Published p) rest)))

  -- ---- what is visited, key by key

  -- What is visited of a key: its point, and what that lists.
  abbrev pub block : K → List Visit
  block k = Published (points.point k) ∷ map (visit_of k) (points.entries k)

  ones : (k : K) (es : List (K ⊎ O)) → flat_map (λ e. visit_of k e ∷ []) es ≡ map (visit_of k) es
  ones k [] = refl
  ones k (e ∷ es) = ap (λ (vs : List Visit). visit_of k e ∷ vs) (ones k es)

  keys-alone : (sub : K → List Visit) (ks : List K) → flat_map (below_by sub) (map inl ks) ≡ flat_map sub ks
  keys-alone sub [] = refl
  keys-alone sub (k ∷ ks) = ap (λ (vs : List Visit). sub k ++ vs) (keys-alone sub ks)

  origins-none : (sub : K → List Visit) (os : List O) → flat_map (below_by sub) (map inr os) ≡ []
  origins-none sub [] = refl
  origins-none sub (o ∷ os) = origins-none sub os

  pub by-keys : (n : ℕ) (k : K) → IsPermutation (subtree n k) (flat_map block (order below n k))
  unfolding subtree order
  by-keys zero k = IsPermutation-refl []
  by-keys (suc n) k =
      let es : List (K ⊎ O) = points.entries k in
      let visits : List Visit = map (visit_of k) es in
      let sub : K ⊎ O → List Visit = below_by (subtree n) in
      let parts : IsPermutation (flat_map (λ e. visit_of k e ∷ sub e) es) (visits ++ flat_map sub es) =
      subst (λ (vs : List Visit). IsPermutation (flat_map (λ e. visit_of k e ∷ sub e) es) (vs ++ flat_map sub es))
      (ones k es) (flat-parts (λ e. visit_of k e ∷ []) sub es) in
      let split : flat_map sub (map inl (below k) ++ map inr (under k)) ≡ flat_map (subtree n) (below k) =
      flat_map-append sub (map inl (below k)) (map inr (under k))
      ∙ (ap (λ (vs : List Visit). vs ++ flat_map sub (map inr (under k))) (keys-alone (subtree n) (below k))
      ∙ (ap (λ (vs : List Visit). flat_map (subtree n) (below k) ++ vs) (origins-none (subtree n) (under k))
      ∙ append-nil (flat_map (subtree n) (below k)))) in
      let moved : IsPermutation (flat_map sub es) (flat_map (subtree n) (below k)) =
      subst (IsPermutation (flat_map sub es)) split
      (IsPermutation-sym (flat_map sub (map inl (below k) ++ map inr (under k))) (flat_map sub es)
      (flat-moved sub (map inl (below k) ++ map inr (under k)) es (points.all k))) in
      let deeper : IsPermutation (flat_map (subtree n) (below k)) (flat_map block (flat_map (order below n) (below k))) =
      subst (IsPermutation (flat_map (subtree n) (below k)))
      (sym (flat-flat (order below n) block (below k)))
      (flat-each (subtree n) (λ c. flat_map block (order below n c)) (below k) (λ c at. by-keys n c)) in
      IsPermutation-cons (Published (points.point k)) (flat_map (λ e. visit_of k e ∷ sub e) es)
      (visits ++ flat_map block (flat_map (order below n) (below k)))
      (IsPermutation-trans (flat_map (λ e. visit_of k e ∷ sub e) es) (visits ++ flat_map sub es)
      (visits ++ flat_map block (flat_map (order below n) (below k))) parts
      (IsPermutation-append_right visits (flat_map sub es)
      (flat_map block (flat_map (order below n) (below k)))
      (IsPermutation-trans (flat_map sub es) (flat_map (subtree n) (below k))
      (flat_map block (flat_map (order below n) (below k))) moved deeper)))
