-- What the walks say of a shadow is what a logged cell says of it.
use Rattle.std.proofs.Common.{◌≡◌, true, false, Option, None, Some, Ok, Err, refl, ap, sym, ◌∙◌, subst}
use Rattle.beldi_query.specs.Query.{QueryReply}
use Rattle.beldi_value.specs.declared.place.{Owner.Owner, Owner.TheVariants.Intent, Owner.TheVariants.Tx, Place.Place}
use Rattle.beldi_row.{specs.declared.table.TableErr.TableErr, specs.declared.table.TableErr.TheVariants.OutOfMemory, specs.declared.table.TableErr.TheVariants.Failed, specs.declared.table.TableErr.TheVariants.Full, specs.Log.note_at, specs.Table.Rows, proofs.Tells.tells_map}
use Rattle.beldi_chain.specs.{Chain.chain, Chain.content, Content.Content}
use Rattle.beldi_links.specs.Links.{IsLinked, ReadsAt, SeesAt}
use Rattle.beldi_daal.specs.Logged.{at_of, owner_after, dies, barred, DidAs, Logs, LoggedTurn, ReadsContent, LooksOn as PlainLooks, ReadTurn as PlainRead}
use Rattle.beldi_daal.{specs.declared.cell.CellOp.CellOp, specs.declared.cell.CellOp.TheVariants.Write, specs.declared.cell.CellOp.TheVariants.Cond, specs.declared.cell.CellOp.TheVariants.Lock, specs.declared.cell.CellOp.TheVariants.Free, specs.declared.walk.WriteOutput.WriteOutput, specs.declared.read_walk.ReadOutput.ReadOutput, specs.declared.read_walk.ReadWalk.ReadWalk, proofs.Logged.writes_are_logged, proofs.Logged.reads_are_contents}
use Rattle.beldi_daal.specs.ReadWalk as read
use Rattle.beldi_daal.specs.WriteWalk as write
use Rattle.beldi_shadow.specs.Shadowed.{is_aside, write_key, read_key, DoneOnce, Writes, WriteTurn, Reads, ReadTurn, LooksOn, ShadowsAreLogged, ShadowsReadTheirOwn}
use Rattle.beldi_shadow.specs.{declared.shadow.ShadowRead.ShadowRead, declared.shadow.ShadowOutput.ShadowOutput, Shadow.read_next, Shadow.read_output, Shadow.read_so, Shadow.write_next, Shadow.write_so}

-- ---- a write: nothing bars it, and nobody dies
free : (who : Owner) (op : CellOp) → is_aside op ≡ true → barred op who None ≡ None
free who (Write v) h = refl
free who (Cond r u v) h = refl
free who Lock h = cc
free who (Free v) h = cc

lives : (who : Owner) (op : CellOp) (o : Option Owner) → is_aside op ≡ true → dies who op o ≡ None
lives (Intent a) op o h = refl
lives (Tx t) (Write v) o h = refl
lives (Tx t) (Cond r u v) o h = refl
lives (Tx t) Lock o h = cc
lives (Tx t) (Free v) o h = cc

module _ (p : Place) (who : Owner) (op : CellOp) (aside : is_aside op ≡ true) (c d : Content) (unowned : c.owner ≡ None) where
  as_before : d ≡ c → d.owner ≡ None
  as_before is = ap (λ (z : Content). z.owner) is ∙ unowned

  -- an operation aside leaves the owner
  done_owner : (op : CellOp) → is_aside op ≡ true → owner_after op who c.owner ≡ c.owner
  done_owner (Write v) h = refl
  done_owner (Cond r u v) h = refl
  done_owner Lock h = cc
  done_owner (Free v) h = cc

  written : (s : WriteOutput) → Logs p who op s c d → Writes p who op (write_so s) c d × (d.owner ≡ None)
  written WriteOutput.Going l = (l, as_before l)
  written (WriteOutput.Done n true) l =
      let did = (subst (λ z. DidAs p who op z c d) (lives who op c.owner aside) l.1.1).1 in
      ((l.0, subst (λ z. DoneOnce p who op z c d) (sym l.1.0) did), ap (λ (z : Content). z.owner) did ∙ done_owner op aside ∙ unowned)
  written (WriteOutput.Done n false) l = ((l.0, subst (λ z. DoneOnce p who op z c d) (sym (ap (λ (z : Content). note_at z.notes p) (sym l.1) ∙ l.0)) l.1), as_before l.1)
  written WriteOutput.NotOwner l = (l.2, as_before l.2)
  written (WriteOutput.Held o) l = let clash = sym (ap (barred op who) unowned ∙ free who op aside) ∙ l.1 in cc
  written WriteOutput.Worn l = (l, as_before l.1)

pub shadows_are_logged : ShadowsAreLogged
shadows_are_logged w x now old new s aside (Ok t, h, c) = tells_map
    {P = λ m n. IsLinked (chain m (write_key w)) → SeesAt (chain m (write_key w)) w.walk.place (at_of w.walk.at) → LoggedTurn w.walk (write.walk_next w.walk t) m n (write.walk_output w.walk t)}
    {Q = λ m n. IsLinked (chain m (write_key w)) → (content (chain m (write_key w))).owner ≡ None → SeesAt (chain m (write_key w)) w.walk.place (at_of w.walk.at) → WriteTurn w x m n s} old.rows new.rows
    (λ m n turned linked unowned sees.
    let l : LoggedTurn w.walk (write.walk_next w.walk t) m n (write.walk_output w.walk t) = turned linked sees in
    let z = written w.walk.place w.walk.who w.walk.op aside _ _ unowned (write.walk_output w.walk t) l.logs in
    subst (λ y. WriteTurn w y m n s) (sym h.0) (subst (WriteTurn w (write_next w t) m n) (sym h.1) (record { others = l.others; writes = z.0; linked = l.linked; unowned = z.1; sees = l.sees })))
    (writes_are_logged w.walk (write.walk_next w.walk t) now old new (write.walk_output w.walk t) (Ok t, (refl, refl), c))
shadows_are_logged w x now old new s aside (Err v, h, c) = absurd h

-- ---- a read, for nobody
so : (c : Content) (s : ReadOutput) → ReadsContent None s c → Reads (read_so s) c
so c ReadOutput.Going h = h
so c (ReadOutput.Got None) h = h
so c (ReadOutput.Got (Some v)) h = h.1
so c (ReadOutput.Held o) h = cc

module _ (w x : ShadowRead) (m n : Rows) where
  looked : (s : ShadowOutput) (t : QueryReply) → w.walk.who ≡ None → x ≡ read_next w t → s ≡ read_output w t → PlainLooks w.walk (read.read_next w.walk t) m n (Ok (read.read_output w.walk t)) → LooksOn w x m n (Ok s)
  looked s t nobody on output h = (
    h.0,
    λ linked sees.
        let l : PlainRead w.walk (read.read_next w.walk t) m (read.read_output w.walk t) = h.1 linked sees in
        let c = content (chain m (read_key w)) in
        subst (λ y. ReadTurn w y m s) (sym on) (subst (ReadTurn w (read_next w t) m) (sym output)
        (record { reads = so c (read.read_output w.walk t) (subst (λ o. ReadsContent o (read.read_output w.walk t) c) nobody l.reads); sees = l.sees })),
  )

  same : (y : ReadWalk) (e : TableErr) → PlainLooks w.walk y m n (Err e) → LooksOn w x m n (Err e)
  same y OutOfMemory h = h
  same y Failed h = h
  same y (Full live most) h = h

pub shadows_read_their_own : ShadowsReadTheirOwn
shadows_read_their_own w x now old new (Ok s) nobody (Ok t, h, c) = tells_map
    {P = λ m n. PlainLooks w.walk (read.read_next w.walk t) m n (Ok (read.read_output w.walk t))} {Q = λ m n. LooksOn w x m n (Ok s)} old.rows new.rows (λ m n turned. looked w x m n s t nobody h.0 h.1 turned)
    (reads_are_contents w.walk (read.read_next w.walk t) now old new (Ok (read.read_output w.walk t)) (Ok t, (refl, refl), c))
shadows_read_their_own w x now old new (Ok s) nobody (Err v, h, c) = absurd h
shadows_read_their_own w x now old new (Err e) nobody (Ok t, h, c) = tells_map
    {P = λ m n. PlainLooks w.walk w.walk m n (Err e)} {Q = λ m n. LooksOn w x m n (Err e)} old.rows new.rows (λ m n turned. same w x m n w.walk e turned)
    (reads_are_contents w.walk w.walk now old new (Err e) (Ok t, (refl, h.1, h.2), c))
shadows_read_their_own w x now old new (Err e) nobody (Err v, h, c) = tells_map
    {P = λ m n. PlainLooks w.walk w.walk m n (Err e)} {Q = λ m n. LooksOn w x m n (Err e)} old.rows new.rows (λ m n turned. same w x m n w.walk e turned)
    (reads_are_contents w.walk w.walk now old new (Err e) (Err v, (refl, h.1), c))
