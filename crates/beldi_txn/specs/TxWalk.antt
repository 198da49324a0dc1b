-- The walk of an operation of a transaction, and how the operation goes on.
use Rattle.std.specs.Prelude.{ℕ}
use Rattle.beldi_value.specs.declared.place.{Place.Place, TxId.TxId}
use Rattle.beldi_lang.specs.declared.effect.Effect.{Effect}
use Rattle.beldi_query.specs.{declared.query.Query.Query, Query.QueryReply}
use Rattle.beldi_txn.specs.{declared.tx.TxAt.TxAt, declared.tx.TxGoes.TxGoes, declared.tx.TxOutput.TxOutput, declared.tx.TxOutput.TheVariants.Going, declared.tx.TxOutput.TheVariants.Died, declared.tx.TxOutput.TheVariants.Held, declared.tx.TxOutput.TheVariants.Worn, declared.tx.TxOutput.TheVariants.Value, declared.tx.TxOutput.TheVariants.Done, declared.tx_walk.TxWalk.TxWalk, Tx.tx_first, Tx.tx_asks, Tx.tx_goes}

-- ---- the way on
-- what kept a value looks for it next; unless it goes on, any other stands where it stood
abbrev pub gone : TxAt → TxGoes → TxAt
gone a (TxGoes.On b) = b
gone a TxGoes.Stays = a
gone a TxGoes.Put = TxAt.Log
gone a (TxGoes.Died c) = a
gone a (TxGoes.Held o) = a
gone a (TxGoes.Value v) = a
gone a TxGoes.Worn = a
gone a TxGoes.Done = a

-- the value that was kept is the answer
abbrev pub put_output : TxAt → TxOutput
put_output (TxAt.Keep v) = Value v
put_output a = Going

abbrev pub output_of : TxAt → TxGoes → TxOutput
output_of a (TxGoes.On b) = Going
output_of a TxGoes.Stays = Going
output_of a TxGoes.Put = put_output a
output_of a (TxGoes.Died c) = Died c
output_of a (TxGoes.Held o) = Held o
output_of a (TxGoes.Value v) = Value v
output_of a TxGoes.Worn = Worn
output_of a TxGoes.Done = Done

-- ---- the walk
abbrev pub first_tx : ℕ → Place → TxId → Effect → TxWalk
first_tx home p x e = record { home = home; place = p; tx = x; effect = e; at = tx_first x.begin e }

abbrev pub walk_asks : TxWalk → Query
walk_asks w = tx_asks w.home w.place w.tx w.effect w.at

abbrev pub goes_by : TxWalk → QueryReply → TxGoes
goes_by w t = tx_goes w.place w.tx.begin w.effect w.at t

-- the walk after it was told, and its answer
abbrev pub walk_next : TxWalk → QueryReply → TxWalk
walk_next w t = record w { at = gone w.at (goes_by w t) }

abbrev pub walk_output : TxWalk → QueryReply → TxOutput
walk_output w t = output_of w.at (goes_by w t)
