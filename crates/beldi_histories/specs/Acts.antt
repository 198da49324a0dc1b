-- The acts inside a transaction: on the content of an item or of a shadow, on a row, and what a run reads in what it is told.
use Rattle.std.specs.Prelude.{Bool, true, false, [], ◌∷◌, ◌++◌, Option, Some, None, if◌then◌else◌}
use Rattle.beldi_value.specs.{Id.is_older, Id.age_of, Passes.passes, declared.id.IntentId.IntentId, declared.place.Owner.Owner, declared.place.Owner.TheVariants.Tx, declared.place.Place.Place, declared.place.TxId.TxId, declared.rel.Rel.Rel, declared.value.Value.Value}
use Rattle.beldi_lang.specs.declared.effect.Answer.{Answer}
use Rattle.beldi_row.specs.{Act.other_owner, Log.note_at, declared.notes.Note.Note, declared.row.Row.Row}
use Rattle.beldi_chain.specs.Content.{Content}

-- ---- on a content: what is there afterwards, and what is told
pub data ContentReply : Type 0 where
  noted : Note → ContentReply
  held : Owner → ContentReply
  died : IntentId → ContentReply
  did : ContentReply
  tested : Bool → ContentReply
  not_owner : ContentReply

-- a place that has a note changes nothing, and is told it
abbrev pub noted_or : Content → Option Note → Content × ContentReply → Content × ContentReply
noted_or c None r = r
noted_or c (Some n) r = (c, noted n)

abbrev pub held_or : Content → Option Owner → Content × ContentReply → Content × ContentReply
held_or c None r = r
held_or c (Some o) r = (c, held o)

abbrev pub with_note : Content → Place → Note → Content
with_note c p n = record c { notes = c.notes ++ (p, n) ∷ [] }

-- the lock of a transaction: another owner lets it wait where the asker is older, or die
abbrev pub lock_or : Place → TxId → Content → Option Owner → Content × ContentReply
lock_or p t c None = (record { value = c.value; owner = Some (Tx t); notes = c.notes ++ (p, Note.Got) ∷ [] }, did)
lock_or p t c (Some o) = if is_older t.intent (age_of o) then (c, held o) else (with_note c p (Note.Died (age_of o)), died (age_of o))

abbrev pub lock_on : Place → TxId → Content → Content × ContentReply
lock_on p t c = noted_or c (note_at c.notes p) (lock_or p t c (other_owner (Tx t) c.owner))

abbrev pub write_on : Place → Owner → Value → Content → Content × ContentReply
write_on p w v c = noted_or c (note_at c.notes p) (held_or c (other_owner w c.owner) (record { value = v; owner = c.owner; notes = c.notes ++ (p, Note.Wrote) ∷ [] }, did))

abbrev pub test_on : Place → Owner → Rel → Value → Value → Content → Content × ContentReply
test_on p w r o v c = noted_or c (note_at c.notes p) (held_or c (other_owner w c.owner) (record { value = (if passes c.value r o then v else c.value); owner = c.owner; notes = c.notes ++ (p, Note.Cond (passes c.value r o)) ∷ [] }, tested (passes c.value r o)))

-- ---- on a row
abbrev pub put_lockset : Option Row → Option Row × Bool
put_lockset None = (Some Row.Lockset, true)
put_lockset (Some r) = (Some r, false)

-- ---- what a run reads in what it was told of its lock: that it died
abbrev pub lock_answer : Place → ContentReply → Option Answer
lock_answer p (noted (Note.Died h)) = Some (Answer.Aborted (record { place = p; holder = Some h }))
lock_answer p (died h) = Some (Answer.Aborted (record { place = p; holder = Some h }))
lock_answer p t = None
