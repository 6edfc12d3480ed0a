-- The law of the store's record.
use Rattle.record_forms.specs.Form.{Form, IsForm}
use Rattle.record_forms.specs.Forms.{both, marked, plain, sized}
use Rattle.record_forms.specs.laws.ByteLaws.{plain-law, sized-law}
use Rattle.record_forms.specs.laws.FormLaws.{both-law, marked-law}
use Rattle.press_records.specs.Store.{Store, stores}

abbrev store_fields : Form Store
store_fields = both (plain 16) (both sized sized)

store_fields-law : IsForm store_fields
store_fields-law = both-law (plain 16) (both sized sized) (plain-law 16) (both-law sized sized sized-law sized-law)

pub stores-law : IsForm stores
unfolding stores
stores-law =
    marked-law 0 (marked 0 (marked 1 store_fields)) (marked-law 0 (marked 1 store_fields) (marked-law 1 store_fields store_fields-law))
