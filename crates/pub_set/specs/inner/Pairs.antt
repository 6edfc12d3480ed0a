-- The objects of two lists at their least URI.
use Rattle.std.specs.Prelude.{List, [], ◌∷◌, Option, None, Some}
use Rattle.std.specs.Ordering.{match_ordering}
use Rattle.pub_set.specs.declared.objects.Object.{Object}
use Rattle.pub_set.specs.declared.steps.Change.{Change}
use Rattle.pub_set.specs.Objects.{uri_cmp}
use Rattle.pub_set.specs.Changes.{difference}

-- The first object of the one list, of the other, or of both, where they are at one URI.
abbrev pub first_pair : List Object → List Object → Option Object × Option Object
first_pair [] [] = (None, None)
first_pair (gone ∷ old) [] = (Some gone, None)
first_pair [] (come ∷ new) = (None, Some come)
first_pair (gone ∷ old) (come ∷ new) =
    match_ordering (uri_cmp gone.uri come.uri)
    (Some gone, None) (Some gone, Some come) (None, Some come)

-- What is left without the first object, if it is taken.
abbrev pub rest_of : Option Object → List Object → List Object
rest_of None objects = objects
rest_of (Some first) [] = []
rest_of (Some first) (o ∷ rest) = rest

-- The change that makes the one object of the other, if they aren't the same.
abbrev pub pair_difference : Option Object → Option Object → Option Change
pair_difference None None = None
pair_difference (Some gone) None = difference gone.uri (Some gone.bytes) None
pair_difference None (Some come) = difference come.uri None (Some come.bytes)
pair_difference (Some gone) (Some come) = difference come.uri (Some gone.bytes) (Some come.bytes)
