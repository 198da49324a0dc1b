-- What a commit and an abort touch: their moves are one list.
use Rattle.beldi_plain_laws.proofs.Names.{Aborts, AllPlain, AtEnd, Bool, Commits, Deployment, Going, Instance, IntentId, Item, Leads, List, Move, NotBefore, Option, TransactionsTouchTheirItems, Place, PlainState, Some, TouchedBy, TouchedIn, TouchedInCommit, TouchedInAbort, TxId, WrittenBy, WrittenIn, [], ap, effect_of, fell, inl, inr, is_there, after_move, opened, plain, refl, subst, sym, touched_at, true, tx_begun, written_at, written_on, ◌∙◌, ◌∷◌, ◌≡◌}
use Rattle.beldi_plain_laws.proofs.Moved.{MoveIs, answers, calls, returns, move_is, mover, moved_is}
use Rattle.beldi_plain_laws.proofs.{LeadsAlike.touches, Maps.same_some, Transactions.no_end, Transactions.ends_now}
use Rattle.beldi_plain_laws.proofs.Names.map

module _ (d : Deployment) (t : TxId) where
  -- what the two lists have in common
  next_same : (m n : Move) (s r u : Going) → m ≡ plain → n ≡ plain → after_move d t m s ≡ Some r → after_move d t n s ≡ Some u → r ≡ u
  next_same m n s r u a b g h = same_some (sym g ∙ ap (λ z. after_move d t z s) (a ∙ sym b) ∙ h)

  same_cons : (m n : Move) (ms ns : List Move) → m ≡ plain → n ≡ plain → ms ≡ ns → m ∷ ms ≡ n ∷ ns
  same_cons m n ms ns a b h = ap (λ z. z ∷ ms) (a ∙ sym b) ∙ ap (λ z. n ∷ z) h

  -- nobody goes on from an end
  end_stays : (id : IntentId) (c : Bool) (s r : Going) (m : Move) → AtEnd d id s c → m ≡ plain → after_move d t m s ≡ Some r → ⊥
  end_stays id c s r m at is h =
      let q = at.stands.instance in
      let off = no_end d t c s.state s.active q (effect_of d q) r (sym (moved_is d t plain s q at.stands.made) ∙ ap (λ z. after_move d t z s) (sym is) ∙ h) in
      let c = sym (ap ends_now at.stands.effect) ∙ off in cc

  pub same_to_end : (id : IntentId) (c : Bool) (ms ns : List Move) (s k l : Going) → Leads d t s ms k → AllPlain ms → AtEnd d id k c → Leads d t s ns l → AllPlain ns → AtEnd d id l c → ms ≡ ns
  same_to_end id c [] [] s k l a pa ka b pb lb = refl
  same_to_end id c [] (n ∷ ns) s k l a pa ka b pb lb = absurd (end_stays id c s b.0 n (subst (λ z. AtEnd d id z c) (sym a) ka) pb.0 b.1)
  same_to_end id c (m ∷ ms) [] s k l a pa ka b pb lb = absurd (end_stays id c s a.0 m (subst (λ z. AtEnd d id z c) (sym b) lb) pa.0 a.1)
  same_to_end id c (m ∷ ms) (n ∷ ns) s k l a pa ka b pb lb =
      let same = next_same m n s a.0 b.0 pa.0 pb.0 a.1 b.1 in
      same_cons m n ms ns pa.0 pb.0 (same_to_end id c ms ns b.0 k l (subst (λ z. Leads d t z ms k) same a.2) pa.1 ka b.2 pb.1 lb)

  pub same_to_place : (place : Place) (ms ns : List Move) (s k l : Going) → Leads d t s ms k → AllPlain ms → NotBefore d t place s ms → is_there place k ≡ true → Leads d t s ns l → AllPlain ns → NotBefore d t place s ns → is_there place l ≡ true → ms ≡ ns
  same_to_place place [] [] s k l a pa fa ka b pb fb lb = refl
  same_to_place place [] (n ∷ ns) s k l a pa fa ka b pb fb lb = let c = sym fb.0 ∙ ap (is_there place) a ∙ ka in cc
  same_to_place place (m ∷ ms) [] s k l a pa fa ka b pb fb lb = let c = sym fa.0 ∙ ap (is_there place) b ∙ lb in cc
  same_to_place place (m ∷ ms) (n ∷ ns) s k l a pa fa ka b pb fb lb =
      let same = next_same m n s a.0 b.0 pa.0 pb.0 a.1 b.1 in
      same_cons m n ms ns pa.0 pb.0 (same_to_place place ms ns b.0 k l (subst (λ z. Leads d t z ms k) same a.2) pa.1 (subst (λ z. NotBefore d t place z ms) same (fa.1 a.0 a.1)) ka b.2 pb.1 (fb.1 b.0 b.1) lb)

  -- what is written is touched
  one_written : (m : Move) (s r : Going) (x : Item) → after_move d t m s ≡ Some r → WrittenBy d s m x → TouchedBy d s m x
  one_written m s r x h w = let q = mover d t m s r h in by_move m q.0 q.1 (move_is d t m s q.0 r q.1 h) w
    where
      by_plain : (q : Instance) → map.get s.state.made s.active ≡ Some q → MoveIs d t plain s r q → written_at d (map.get s.state.made s.active) ≡ Some x → touched_at d (map.get s.state.made s.active) ≡ Some x
      by_plain q made (answers a) g = ap (touched_at d) made ∙ touches s.state.items s.state.items q (effect_of d q) a.answer x a.gives_it (sym (ap (written_at d) made) ∙ g)
      by_plain q made (calls c) g = let e = sym g ∙ ap (written_at d) made ∙ ap (written_on q) c.call in cc
      by_plain q made (returns c) g = let e = sym g ∙ ap (written_at d) made ∙ ap (written_on q) c.returns in cc

      by_move : (n : Move) (q : Instance) → map.get s.state.made s.active ≡ Some q → MoveIs d t n s r q → WrittenBy d s n x → TouchedBy d s n x
      by_move plain q made is g = by_plain q made is g
      by_move (fell o) q made is g = g

  pub written_touched : (s : Going) (moves : List Move) (l : Going) (x : Item) → Leads d t s moves l → WrittenIn d t s moves x → TouchedIn d t s moves x
  written_touched s [] l x leads w = w
  written_touched s (m ∷ ms) l x leads (inl w) = inl (one_written m s leads.0 x leads.1 w)
  written_touched s (m ∷ ms) l x leads (inr w) = inr (w.0, w.1, written_touched w.0 ms l x (subst (λ z. Leads d t z ms l) (same_some (sym leads.1 ∙ w.1)) leads.2) w.2)

commit_touches : (d : Deployment) (p : PlainState) (id : IntentId) (r : PlainState) (h : Commits d p id r) (x : Item) → TouchedInCommit d p id x → TouchedIn d (tx_begun id h.instance) (opened p id h.instance) h.moves x
commit_touches d p id r h x w =
    let same : w.commit.instance ≡ h.instance = same_some (sym w.commit.runs.made ∙ h.runs.made) in
    let t = tx_begun id h.instance in
    let s = opened p id h.instance in
    let leads = subst (λ z. Leads d (tx_begun id z) (opened p id z) w.commit.moves w.commit.last) same w.commit.runs.leads in
    let one = same_to_end d t id true w.commit.moves h.moves s w.commit.last h.last leads w.commit.plainly w.commit.ends h.runs.leads h.plainly h.ends in
    subst (λ ms. TouchedIn d t s ms x) one (subst (λ z. TouchedIn d (tx_begun id z) (opened p id z) w.commit.moves x) same w.touched_it)

abort_touches : (d : Deployment) (p : PlainState) (id : IntentId) (place : Place) (holder : Option IntentId) (r : PlainState) (h : Aborts d p id place holder r) (x : Item) → TouchedInAbort d p id place holder x → TouchedIn d (tx_begun id h.instance) (opened p id h.instance) h.before x
abort_touches d p id place holder r h x w =
    let same : w.abort.instance ≡ h.instance = same_some (sym w.abort.runs.made ∙ h.runs.made) in
    let t = tx_begun id h.instance in
    let s = opened p id h.instance in
    let leads = subst (λ z. Leads d (tx_begun id z) (opened p id z) w.abort.before w.abort.there) same w.abort.runs.leads in
    let first = subst (λ z. NotBefore d (tx_begun id z) place (opened p id z) w.abort.before) same w.abort.first in
    let one = same_to_place d t place w.abort.before h.before s w.abort.there h.there leads w.abort.plainly first w.abort.stands h.runs.leads h.plainly h.first h.stands in
    subst (λ ms. TouchedIn d t s ms x) one (subst (λ z. TouchedIn d (tx_begun id z) (opened p id z) w.abort.before x) same w.touched_it)

pub transactions_touch_their_items : TransactionsTouchTheirItems
transactions_touch_their_items = record { commits = commit_touches; aborts = abort_touches }
