-- The text of entries.
use Rattle.std.specs.Prelude.{ℕ, List, ◌++◌, flat_map, slice_get, Option, Some, None, codes}
use Rattle.std.specs.Fmt.{decimal}
use Rattle.beldi_value.specs.{Json.text_of, Datum.text, Value.datum_of, declared.value.Value.Value, ValueText.id_text, ValueText.place_text, declared.id.IntentId.IntentId}
use Rattle.beldi_tree.specs.{declared.deployment.Deployment.Deployment, declared.deployment.Func.Func, declared.deployment.TableHead.TableHead, Names.func_text, Names.func_at}
use Rattle.beldi_book.specs.declared.entry.Entry.{Entry, TheVariants.Start, TheVariants.Read, TheVariants.Step, TheVariants.CommittedTx, TheVariants.AbortedTx}

-- a holder's id, or `-`
abbrev pub holder_text : Option IntentId → List ℕ
holder_text None = codes "-"
holder_text (Some id) = id_text id

abbrev pub entry_text : Deployment → Entry → List ℕ
entry_text d (Start t f a) = codes "start " ++ (decimal t ++ (codes " " ++ (func_text d f ++ (codes " " ++ text_of (datum_of a)))))
entry_text d (Read id version) = codes "read " ++ (id_text id ++ (codes " " ++ decimal version))
entry_text d (Step id) = codes "step " ++ id_text id
entry_text d (CommittedTx id) = codes "tx " ++ id_text id
entry_text d (AbortedTx id p h) = codes "try " ++ (id_text id ++ (codes " " ++ (place_text p ++ (codes " " ++ holder_text h))))

-- a line for each entry
abbrev pub book_text : Deployment → List Entry → List ℕ
book_text d es = flat_map (λ e. entry_text d e ++ codes "\n") es

abbrev pub head_name : ℕ → Option TableHead → List ℕ
head_name n None = decimal n
head_name n (Some t) = t.name

abbrev pub table_in : ℕ → Option Func → List ℕ
table_in n None = decimal n
table_in n (Some f) = head_name n (slice_get f.tables n)

-- a table of a function by its name, or by its number where the deployment lacks it
abbrev pub table_text : Deployment → ℕ → ℕ → List ℕ
table_text d f n = table_in n (func_at d f)

-- a key as JSON
abbrev pub quoted_key : List ℕ → List ℕ
quoted_key k = text_of (text k)

-- the line of an item in a listing: function, table, key and value
abbrev pub item_text : Deployment → ℕ → ℕ → List ℕ → Value → List ℕ
item_text d f t k v = func_text d f ++ (codes " " ++ (table_text d f t ++ (codes " " ++ (quoted_key k ++ (codes " " ++ (text_of (datum_of v) ++ codes "\n"))))))
