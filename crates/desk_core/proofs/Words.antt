-- What a word's seats come to where its owner tells a follower, or counts an entry.
use Rattle.std.proofs.Common.{◌≡◌, ℕ, ◌≤◌, ◌<◌, Bool, true, false, nat_lt, List, [], ◌∷◌, ◌++◌, map, length, None, Some, inl, refl, sym, ap, ◌∙◌, subst, arith, append_assoc, length-append, ◌^◌, Option}
use Rattle.std.specs.Prelude.{IfSome, if◌then◌else◌}
use Rattle.std.proofs.lemmas.List.{append-nil}
use Rattle.std.proofs.lemmas.Bool.Decides.{nat_tests}
use mathlib.Core.List.{IsPrefix}
use Rattle.commit_word.specs.Entries.{Has, ShareNoPlace, joined, longer}
use Rattle.commit_word.specs.Seats.{OwnerSeat, FollowerSeat, follower_seat}
use Rattle.gate_journal.specs.Format.{taken_by}
use Rattle.authority_book.specs.declared.commands.Command.{Command}
use Rattle.disk_api.specs.declared.disk.Disk.{Ghosts as DiskGhosts}
use Rattle.desk_core.specs.View.{View}
use Rattle.desk_core.specs.Answers.{CanCommit, IsDeskFault}
use Rattle.desk_core.specs.declared.faults.DeskFault.{DeskFault}
use Rattle.desk_core.specs.declared.faults.DeskFault.TheVariants.{Shut, Verdict, JournalFull, DiskFault, Memory}

pub prefix_trans : (xs ys zs : List (List ℕ)) → IsPrefix xs ys → IsPrefix ys zs → IsPrefix xs zs
prefix_trans xs ys zs p q = (p.0 ++ q.0, sym (append_assoc xs p.0 q.0) ∙ (ap (λ w. w ++ q.0) p.1 ∙ q.1))

pub prefix_length : (xs ys : List (List ℕ)) → IsPrefix xs ys → length xs ≤ length ys
prefix_length xs ys p = omega (arith, sym (ap length p.1) ∙ length-append xs p.0)

pub prefix_more : (xs ys : List (List ℕ)) → IsPrefix xs (xs ++ ys)
prefix_more xs ys = (ys, refl)

whole : (xs rest : List (List ℕ)) → length (xs ++ rest) ≤ length xs → xs ≡ xs ++ rest
whole xs [] h = sym (append-nil xs)
whole xs (x ∷ rest) h = absurd (omega (arith, length-append xs (x ∷ rest)))

chosen : (xs ys : List (List ℕ)) (b : Bool) → nat_lt (length xs) (length ys) ≡ b → IsPrefix xs ys → (if b then ys else xs) ≡ ys
chosen xs ys true is p = refl
chosen xs ys false is p =
    let less : length ys ≤ length xs = grind (arith, nat_tests) in
    whole xs p.0 (subst (λ (l : List (List ℕ)). length l ≤ length xs) (sym p.1) less) ∙ p.1

-- of a list and a prefix of it the longer one is the list
pub longer_is : (xs ys : List (List ℕ)) → IsPrefix xs ys → longer xs ys ≡ ys
longer_is xs ys p = chosen xs ys (nat_lt (length xs) (length ys)) refl p

pub longer_self : (xs : List (List ℕ)) → longer xs xs ≡ xs
longer_self xs = longer_is xs xs ([], append-nil xs)

-- a follower that took in what the owner gave it has seen the owner's list
pub heard : (f note next : FollowerSeat) (o : OwnerSeat) → note ≡ follower_seat o [] → IsPrefix f.seen o.seen
    → next ≡ record f { seen = longer f.seen note.seen; mine = joined f.mine note.mine }
    → next ≡ record f { seen = o.seen }
heard f note next o given p both =
    both ∙ (ap (λ (n : FollowerSeat). record f { seen = longer f.seen n.seen; mine = joined f.mine n.mine }) given
    ∙ ap (λ (l : List (List ℕ)). record f { seen = l }) (longer_is f.seen o.seen p))

-- an owner that took in who made nothing is as it was
pub same_owner : (o next : OwnerSeat) (note : FollowerSeat) → note.mine ≡ [] → next ≡ record o { mine = joined o.mine note.mine } → next ≡ o
same_owner o next note none both = both ∙ ap (λ (m : List (ℕ × List ℕ)). record o { mine = joined o.mine m }) none

-- the owner, once an entry was set aside and counted
pub owner_counted : (entry : List ℕ) (o noted bumped : OwnerSeat) → o.coming ≡ None → noted ≡ record o { coming = Some entry }
    → IfSome noted.coming (λ e. bumped ≡ record noted { seen = noted.seen ++ e ∷ []; coming = None })
    → bumped ≡ record o { seen = o.seen ++ entry ∷ [] }
owner_counted entry o noted bumped none aside grown =
    let next : bumped ≡ record o { seen = o.seen ++ entry ∷ []; coming = None } =
    subst (λ (x : OwnerSeat). IfSome x.coming (λ e. bumped ≡ record x { seen = x.seen ++ e ∷ []; coming = None })) aside grown in
    next ∙ ap (λ (k : Option (List ℕ)). record o { seen = o.seen ++ entry ∷ []; coming = k }) (sym none)

-- what a follower made, once it took in the entry, which is past all others
made_one : (mine : List (ℕ × List ℕ)) (entry : List ℕ) (len : ℕ)
    → ((xs : List (ℕ × List ℕ)) (place : ℕ) (e : List ℕ) → ((p : ℕ) (d : List ℕ) → Has xs p d → p < place) → joined xs ((place, e) ∷ []) ≡ xs ++ (place, e) ∷ [])
    → ((p : ℕ) (d : List ℕ) → Has mine p d → p ≤ len) → ShareNoPlace mine ((len, entry) ∷ [])
    → joined mine ((len, entry) ∷ []) ≡ mine ++ (len, entry) ∷ []
made_one mine entry len law near apart =
    law mine len entry (λ p d h.
    let low = near p d h in
    let other : p ≡ len → ⊥ = λ same. apart len d entry (subst (λ (n : ℕ). Has mine n d) same h) (inl refl) in
    omega arith)

-- a follower that has seen the owner's list, once it took in the seat of the entry that is set aside
pub seat_taken : (entry : List ℕ) (f seat next : FollowerSeat) (o : OwnerSeat)
    → ((xs : List (ℕ × List ℕ)) (place : ℕ) (e : List ℕ) → ((p : ℕ) (d : List ℕ) → Has xs p d → p < place) → joined xs ((place, e) ∷ []) ≡ xs ++ (place, e) ∷ [])
    → seat ≡ follower_seat o ((length o.seen, entry) ∷ []) → f.seen ≡ o.seen
    → ((p : ℕ) (d : List ℕ) → Has f.mine p d → p ≤ length o.seen) → ShareNoPlace f.mine seat.mine
    → next ≡ record f { seen = longer f.seen seat.seen; mine = joined f.mine seat.mine }
    → next ≡ record f { seen = o.seen; mine = f.mine ++ (length o.seen, entry) ∷ [] }
seat_taken entry f seat next o law given seen near apart both =
    let apart' : ShareNoPlace f.mine ((length o.seen, entry) ∷ []) = subst (λ (n : FollowerSeat). ShareNoPlace f.mine n.mine) given apart in
    both
    ∙ (ap (λ (n : FollowerSeat). record f { seen = longer f.seen n.seen; mine = joined f.mine n.mine }) given
    ∙ (ap (λ (l : List (List ℕ)). record f { seen = longer l o.seen; mine = joined f.mine ((length o.seen, entry) ∷ []) }) seen
    ∙ (ap (λ (l : List (List ℕ)). record f { seen = l; mine = joined f.mine ((length o.seen, entry) ∷ []) }) (longer_self o.seen)
    ∙ ap (λ (m : List (ℕ × List ℕ)). record f { seen = o.seen; mine = m }) (made_one f.mine entry (length o.seen) law near apart'))))

-- ---- a desk whose commands a word counts

fewer_than_taken : (records : List (List ℕ)) → length records ≤ taken_by (map length records)
fewer_than_taken [] = omega arith
fewer_than_taken (r ∷ records) = omega (arith, fewer_than_taken records)

-- there is room for another count where another command fits
pub room_left : {D : Type 0} (desk : View D) (command : Command) (signers : ℕ) → CanCommit desk command signers → length desk.records < 2 ^ 63
room_left desk command signers place = omega (arith, fewer_than_taken desk.records, place.fits)

-- a refusal leaves the records
pub refused_records : {D : Type 0} (disk_of : DiskGhosts D) (fault : DeskFault D) (command : Command) (signers : ℕ) (old new : View D)
    → IsDeskFault disk_of fault command signers old new → new.records ≡ old.records
refused_records disk_of (Shut rose) command signers old new is = ap (λ (v : View _). v.records) is.same
refused_records disk_of (Verdict refusal) command signers old new is = ap (λ (v : View _). v.records) is.same
refused_records disk_of (JournalFull held needed) command signers old new is = ap (λ (v : View _). v.records) is.same
refused_records disk_of (DiskFault rose) command signers old new is = ap (λ (v : View _). v.records) is.same
refused_records disk_of Memory command signers old new is = ap (λ (v : View _). v.records) is.same
