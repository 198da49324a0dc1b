-- The tables at a body with a transaction: they compute.
use Rattle.std.specs.Prelude.{◌≡◌, true, false, List, [], ◌∷◌, Some, None, refl}
use Rattle.beldi_tree.specs.StatementCommand.{write}
use Rattle.beldi_histories.proofs.Names.{Answer, Deployment, Instance, IntentId, Item, TxId, local_steps, commands_of, effect_of, end_of, got_by, lockset_of, null, expected_note, expected_shadow, read, return, root_of, row_at, text, transaction, tx_now, Effect, Note, Value}

-- function f(x) { table t; transaction { read v = t[""]; write t[""] = null; } aborted { } return null; }
abbrev deployment : Deployment
deployment = record {
  life = 100;
  room = 100;
  funcs = record {
    name = 102 ∷ [];
    param = 120 ∷ [];
    tables = record { name = 116 ∷ []; line = 1 } ∷ [];
    body = transaction 2 (commands_of (read 3 (118 ∷ []) (116 ∷ []) (text []) ∷ write 4 (116 ∷ []) (text []) null ∷ [])) (commands_of []) ∷ return 5 null ∷ [];
    line = 1;
  } ∷ [];
}

abbrev id : IntentId
id = root_of 1

abbrev item : Item
item = record { func = 1; table = 0; key = [] }

abbrev tx : TxId
tx = record { intent = id; begin = 0; func = 1 }

abbrev so_far : List Answer → Instance
so_far xs = record { func = 1; args = Value.Null; parent = None; enclosing = None; answers = xs; outcome = None }

abbrev begun : Instance
begun = so_far (Answer.Done ∷ [])

abbrev at_end : Instance
at_end = so_far (Answer.Done ∷ Answer.Value Value.Null ∷ Answer.Done ∷ [])

abbrev committed : Instance
committed = so_far (Answer.Done ∷ Answer.Value Value.Null ∷ Answer.Done ∷ Answer.Done ∷ [])

begins : (effect_of deployment (so_far []) ≡ Effect.Begin) × (local_steps deployment id (so_far []) ≡ begun)
begins = (refl, refl)

reads : (effect_of deployment begun ≡ Effect.Read 0 []) × (expected_note deployment item id true 1 (Some begun) ≡ Some Note.Got)
reads = (refl, refl)

is_inside : (tx_now deployment id at_end ≡ Some tx) × (row_at deployment at_end 0 ≡ None)
is_inside = (refl, refl)

-- what it expects once it has committed: its rows, the notes of its write and of its lock, and what it has got
expects : (row_at deployment committed 0 ≡ Some (Value.Bool true)) × (row_at deployment committed 1 ≡ Some Value.Null) × (expected_shadow deployment tx item id 2 (Some committed) ≡ Some Note.Wrote) × (expected_note deployment item id false 2 (Some committed) ≡ Some Note.Got)
expects = (refl, refl, refl, refl)

got : (lockset_of deployment 0 item id committed ≡ true) × (got_by deployment tx item id false (Some committed) ≡ true)
got = (refl, refl)

ended : (end_of deployment committed 0 ≡ Some (3, true)) × (tx_now deployment id committed ≡ None)
ended = (refl, refl)
