-- Every live run that has begun stands along the answers that are asked of its intent.
use Rattle.beldi_intent.specs.Intent.{intent_in}
use Rattle.beldi_invariant.proofs.Names.{Answer, AnswersStay, Begun, BodyMatches, Body, Bool, CalleeBodyMatches, Core, Deployment, Inside, Instance, IntentId, IntentMatches, IntentRow, IsAt, KnowsAt, Knows, List, None, Option, Invariant, RootMatches, Row, Rows, Run, RunAt, Some, TxId, ap, append_assoc, arith, at_effect, body_of, effect_of, false, has_ended, has_no_hops, if◌then◌else◌, is_some, key_in, length, refl, same_some, subst, sym, true, tx_now, ℕ, ◌++◌, ◌==◌, ◌∙◌, ◌∷◌, ◌≡◌}
use Rattle.beldi_invariant.proofs.Names.map
use Rattle.beldi_invariant.proofs.StageTurns.{wanted_here}
use Rattle.beldi_bound.specs.{Cost.AreAsked, Cost.next_held, Cost.with_answers, SettleWork.seat}
use Rattle.beldi_bound.proofs.{AskedOnce.AreHeld, AskedOnce.asked_front, Facts.Along, Facts.GoesOn, Facts.RunsStand, Facts.Stands, HistoryAsked.recorded_held, HistoryAsked.row_body}

-- ---- the row of an intent whose instance is known has a body: a root's always, a callee's where it is there
pub record HasIts (o : Option Row) : Type 0 where
  pub row : IntentRow
  pub body : Body
  pub there : o ≡ Some (Row.Intent row)
  pub has : row.body ≡ Some body

root_has : (o : Option Row) (q : Instance) → RootMatches true o (Some q) → HasIts o
root_has None q f = let clash = f in cc
root_has (Some (Row.Intent r)) q f = by_body r.body refl f.body
  where
    by_body : (b : Option Body) → r.body ≡ b → BodyMatches b r.outcome (Some q) → HasIts (Some (Row.Intent r))
    by_body None is g = let clash = g in cc
    by_body (Some b) is g = record { row = r; body = b; there = refl; has = is }
root_has (Some r) q f = absurd f

callee_has : (ended : TxId → Bool) (home : ℕ) (o : Option Row) (q : Instance) → is_some o ≡ true → IntentMatches ended false home o (Some q) → HasIts o
callee_has ended home None q there f = cc
callee_has ended home (Some (Row.Intent r)) q there f = by_body r.body refl f.body
  where
    by_body : (b : Option Body) → r.body ≡ b → CalleeBodyMatches home b r.outcome (Some q) → HasIts (Some (Row.Intent r))
    by_body None is g = absurd g
    by_body (Some b) is g = record { row = r; body = b; there = refl; has = is }
callee_has ended home (Some r) q there f = absurd f

pub intent_there : (o : Option Row) (i : IntentRow) → intent_in o ≡ Some i → o ≡ Some (Row.Intent i)
intent_there o i h = grind arith

module _ (d : Deployment) (c : Core) (m : Rows) (h : Invariant d c m) (r : Run) (g : Begun) where
  pub its_row : (k : Knows d h.histories r g) → Inside m h.plain c.book k g.stage → HasIts (map.get m (seat r))
  its_row k finds = by_root (has_no_hops r.id.hops) refl (subst (λ z. IntentMatches (has_ended d h.histories) (has_no_hops r.id.hops) (seat r).home (map.get m (seat r)) z) k.made (h.rows.keys (seat r)))
    where
      at : (b : Bool) → has_no_hops r.id.hops ≡ b → seat r ≡ key_in (if b then 0 else r.func) r.id
      at b is = ap (λ t. key_in (if t then 0 else r.func) r.id) is

      by_root : (b : Bool) → has_no_hops r.id.hops ≡ b → IntentMatches (has_ended d h.histories) b (seat r).home (map.get m (seat r)) (Some k.instance) → HasIts (map.get m (seat r))
      by_root true is f = root_has (map.get m (seat r)) k.instance (subst (λ t. RootMatches ((if t then 0 else r.func) == 0) (map.get m (seat r)) (Some k.instance)) is f)
      by_root false is f = callee_has (has_ended d h.histories) (seat r).home (map.get m (seat r)) k.instance (ap (λ l. is_some (map.get m l)) (at false is) ∙ finds.row is) f

  -- its answers are held, and so they begin those that are asked
  still_held : (e : Rows) → AnswersStay m e → (id : IntentId) (b : Body) (front : List Answer) (a : Answer) → next_held d m id b front ≡ Some a → next_held d e id b front ≡ Some a
  still_held e stay id b front a = let q = with_answers b front in stay id b.func (length front) (tx_now d id q) (effect_of d q) a

  stands_so : (k : Knows d h.histories r g) → Inside m h.plain c.book k g.stage → (e : Rows) (asked : IntentId → List Answer) → GoesOn m e → AreAsked d e asked → Stands d e asked r g
  stands_so k finds e asked on are =
      let q = k.instance in
      let its = its_row k finds in
      let of = row_body d c m h (seat r).home r.id its.row its.body its.there its.has in
      let same : body_of q ≡ its.body = ap body_of (same_some (sym k.made ∙ of.made)) ∙ sym of.body in
      let now = on.intents (seat r) its.row (ap intent_in its.there) in
      let there = intent_there (map.get e (seat r)) now.0 now.1 in
      let has = now.2.body its.body its.has in
      let held : AreHeld d e r.id (body_of q) k.answers = λ front a rest is. still_held e on.answers r.id (body_of q) front a
      (recorded_held d m h.histories h.lock_ahead h.rows h.well_formed r.id q k.made front a (rest ++ k.later) (sym (append_assoc front (a ∷ rest) k.later) ∙ ap (λ xs. xs ++ k.later) is ∙ k.run_answers)) in
      let all = asked_front d e r.id its.body k.answers (asked r.id) (subst (λ b. AreHeld d e r.id b k.answers) same held) (are (seat r).home r.id now.0 its.body there has) in
      let along : Along d r.id (body_of q) (asked r.id) r g = record {
        answers = k.answers;
        later = all.0;
        all = all.1;
        func = k.func;
        caller = k.caller;
        steps = sym (at_effect d r.func q.args (is_some q.enclosing) g.machine k.answers k.machine).1;
        machine = subst (λ f. IsAt d f q.args (is_some q.enclosing) g.machine k.answers) (sym k.func) k.machine;
        effect = sym (wanted_here k);
        tx = k.run_open;
      } in
      record { row = now.0; body = its.body; there = there; has = has; along = subst (λ b. Along d r.id b (asked r.id) r g) same along }

pub runs_stand : RunsStand
runs_stand d c m e asked i r g s on are live at =
    let h = s.upkeep.invariant in
    let z = subst (λ o. KnowsAt d m h.plain c.book h.histories r o) at (subst (RunAt d m h.plain c.book h.histories) live (h.runs.runs i)) in
    stands_so d c m h r g z.0 z.1 e asked on are
