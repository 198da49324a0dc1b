-- What making the table leaves.
use Rattle.std.proofs.Common.{◌≡◌, ◌∙◌, ap, sym, subst, false, if◌then◌else◌, None, Ok, ℕ, []}
use Rattle.sqlite.specs.Change.{created, next_tree}
use Rattle.sqlite.specs.Command.TheVariants.{CreateTable}
use Rattle.sqlite.specs.Does.{Tally, lacks_sequence}
use Rattle.sqlite.specs.Effect.{Database}
use Rattle.sqlite.specs.State.{State, Writes, Executes}
use Rattle.sqlite.specs.Steps.{IsEmpty}
use Rattle.sqlite.proofs.Callers.{runs_as}
use Rattle.beldi_blobs.specs.Texts.{beldi, one_table, no_schema, create_text}
use Rattle.beldi_blobs.specs.BlobCalls.{Makes}
use Rattle.beldi_blobs.specs.BlobEntries.{AreStored, entries_of}
use Rattle.beldi_blobs.proofs.Understood.{create_is, create_plain}
use Rattle.beldi_blobs.proofs.Putting.{went, same_value}

pub makes : (old new : State) (count : ℕ) → IsEmpty old → Executes create_text [] old new (Ok count) → Makes new
makes old new count e h =
    let w = subst (λ t. Writes old new None CreateTable t [] count) create_is.1 (runs_as create_text [] old new no_schema e.2 CreateTable create_is.0 create_plain count h) in
    let all = went w.changed in
    let first = went all.1 in
    let made = first.1 in
    let both : Ok made.table ≡ Ok beldi = sym made.defined ∙ create_is.2 in
    let same : made.table ≡ beldi = cc in
    let schema : first.0.schema ≡ one_table = made.is ∙ ap (λ s. created s made.table) e.2 ∙ ap (created no_schema) same in
    let plain : lacks_sequence first.0.schema ≡ false = ap lacks_sequence schema in
    let now : new.now ≡ first.0 = ap (λ (p : Tally × Database). p.1) (same_value all.2) ∙ same_value (rw plain at first.2) in
    let rows : new.now.trees 0 ≡ [] = ap (λ (d : Database). d.trees 0) now ∙ subst (λ s. first.0.trees (next_tree s) ≡ []) e.2 made.empty in
    record {
      table = record {
        schema = ap (λ (d : Database). d.schema) now ∙ schema;
        rows = subst AreStored (sym rows) tt;
        autocommit = w.shown.mode ∙ e.0.autocommit;
        committed = w.shown.committed_is ∙ ap (λ b. if b then old.committed else new.now) e.0.autocommit;
      };
      entries = ap entries_of rows;
    }
