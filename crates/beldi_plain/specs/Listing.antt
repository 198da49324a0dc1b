-- The listing of the plain state.
use Rattle.std.specs.Prelude.{ℕ, List, flat_map}
use Rattle.std.specs.FinMap as map
use Rattle.beldi_value.specs.declared.value.Value.{Value}
use Rattle.beldi_tree.specs.declared.deployment.Deployment.{Deployment}
use Rattle.beldi_book.specs.BookText.{item_text}
use Rattle.beldi_plain.specs.{Item.Item, Plain.PlainState}

-- a line for each item
abbrev pub items_text : Deployment → List (Item × Value) → List ℕ
items_text d es = flat_map (λ e. item_text d e.0.func e.0.table e.0.key e.1) es

-- a line for each item that is not null, in the order of functions, tables and the bytes of keys
abbrev pub listing_of : Deployment → PlainState → List ℕ
listing_of d p = items_text d (map.entries p.items)
