-- What each call leaves of the table, whatever it answers.
use Rattle.std.proofs.Common.{sym, subst, Result, Err, ℕ, List, [], ◌∷◌, IsTrue}
use Rattle.sqlite.specs.declared.error.Error.{Error}
use Rattle.sqlite.specs.declared.types.Value.TheVariants.{Blob}
use Rattle.sqlite.specs.Order.{Row}
use Rattle.sqlite.specs.Listing.{understood}
use Rattle.sqlite.specs.State.{State, Executes, QueriesRow}
use Rattle.sqlite.proofs.Callers.{IsPlain}
use Rattle.beldi_blobs.specs.Texts.{get_text, put_text, next_text, remove_text}
use Rattle.beldi_blobs.specs.BlobEntries.{IsTable}
use Rattle.beldi_blobs.specs.BlobCalls.{Keeps}
use Rattle.beldi_blobs.proofs.Understood.{get_plain, next_plain}
use Rattle.beldi_blobs.proofs.Leaves.{query_leaves, write_leaves, keeps}

pub get_keeps : (old new : State) (key : List ℕ) (r : Result Row Error) → QueriesRow get_text (Blob key ∷ []) old new r → IsTrue new.is_open → IsTable old → Keeps old new
get_keeps old new key r h opened t = keeps old new t opened (query_leaves get_text (Blob key ∷ []) old new r (subst (λ s. IsPlain (understood s get_text)) (sym t.schema) get_plain) h)

pub next_keeps : (old new : State) (key : List ℕ) (r : Result Row Error) → QueriesRow next_text (Blob key ∷ []) old new r → IsTrue new.is_open → IsTable old → Keeps old new
next_keeps old new key r h opened t = keeps old new t opened (query_leaves next_text (Blob key ∷ []) old new r (subst (λ s. IsPlain (understood s next_text)) (sym t.schema) next_plain) h)

pub put_keeps : (old new : State) (key value : List ℕ) (e : Error) → Executes put_text (Blob key ∷ Blob value ∷ []) old new (Err e) → IsTrue new.is_open → IsTable old → Keeps old new
put_keeps old new key value e h opened t = keeps old new t opened (write_leaves put_text (Blob key ∷ Blob value ∷ []) old new e h)

pub remove_keeps : (old new : State) (key : List ℕ) (e : Error) → Executes remove_text (Blob key ∷ []) old new (Err e) → IsTrue new.is_open → IsTable old → Keeps old new
remove_keeps old new key e h opened t = keeps old new t opened (write_leaves remove_text (Blob key ∷ []) old new e h)
