use Rattle.editions.proofs.WalkLemmas.Stays.{authority-stays}
use Rattle.editions.proofs.lasting_laws.places_of_keys_stay.Goals as goal

pub returns : goal.returns
returns c = λ premises editions from to clock later first last one other authority steps le start end before now tree trees live then same parents.
    authority-stays premises editions steps from to le first last start end clock later before now tree trees one
    other live then same parents authority
