-- The turns of an effect that is carried out inside a transaction as outside, a call or a return: what its run is in, and how it goes on.
use Rattle.beldi_invariant.proofs.Names.{Answer, Begun, Call, Caller, Core, Deployment, Effect, Inside, IntentId, IsTrue, Histories, Knows, List, Machine, None, Option, Outcome, Return, Invariant, Rows, Run, RunTx, Some, StandsAt, TxId, Value, [], ap, effect_after, false, is_begin, is_some, none_by, open_of, outside_so, refl, run_tx, subst, sym, tx_after, tx_at, tx_now, tx_of, txs_after, wants_answer, inherited_tx, ℕ, ◌∙◌, ◌∷◌, ◌≡◌, StageOutput}
use Rattle.beldi_invariant.proofs.StageTurns.{Leaves, all_here, answers_on, front_here, recorded_prefix, no_return, wanted_here}
use Rattle.beldi_invariant.proofs.{Grown.grown_same, Moves.SameRoots, Moves.Stays, OpenOf.open_in, OpenOf.open_none, OpenOf.open_tx, OpenOf.tx_open}
use Rattle.beldi_invariant.proofs.Names.map

-- ---- where its run stands
module _ {d : Deployment} {histories : Histories} {id : IntentId} {home : ℕ} {c : Option Caller} {s : Machine} {z : Option RunTx} (k : StandsAt d histories id home c s z) where
  -- the transaction of its step is the one that the run is in
  module _ (apart : is_begin s.effect ≡ false) where
    apart_there : is_begin (effect_after d k.instance k.answers) ≡ false
    apart_there = ap is_begin (wanted_here k) ∙ apart

    by_open : (o : Option RunTx) (t : Option TxId) → open_of d k.instance k.answers ≡ o → tx_after d id k.instance k.answers ≡ t → t ≡ run_tx id home o
    by_open (Some o) t is at = sym at ∙ tx_open d id k.instance k.answers o is apart_there ∙ ap (λ f. Some (tx_of id f o)) k.func
    by_open None None is at = refl
    by_open None (Some t) is at = let clash = sym is ∙ (open_tx d id k.instance k.answers t at apart_there).1 in cc

    pub tx_is : tx_after d id k.instance k.answers ≡ run_tx id home z
    tx_is = by_open (open_of d k.instance k.answers) (tx_after d id k.instance k.answers) refl refl ∙ ap (run_tx id home) (sym k.run_open)

    pub tx_step_is : tx_at d id k.instance s.steps ≡ run_tx id home z
    tx_step_is = ap (tx_after d id k.instance) (front_here k) ∙ tx_is

    pub tx_now_is : k.later ≡ [] → tx_now d id k.instance ≡ run_tx id home z
    tx_now_is left = ap (tx_after d id k.instance) (sym (all_here k left)) ∙ tx_is

  -- a body returns in no transaction of its own: it is in the one that it was called in, if any
  pub returns_in : (o : Outcome) → s.effect ≡ Return o → z ≡ inherited_tx k.instance.enclosing
  returns_in o is = k.run_open ∙ by_within k.instance.enclosing refl
    where
      returns : effect_after d k.instance k.answers ≡ Return o
      returns = wanted_here k ∙ is

      by_within : (w : Option TxId) → k.instance.enclosing ≡ w → open_of d k.instance k.answers ≡ inherited_tx w
      by_within (Some x) e = open_in d k.instance x k.answers e
      by_within None e = open_none d id k.instance k.answers (outside_so d id k.instance k.answers (e, (none_by (txs_after d k.instance k.answers).begun (λ b e. no_return d k.instance k.answers o (ap is_some e) returns))) (ap is_begin returns))

-- ---- its stages
module _ (d : Deployment) (c : Core) (m : Rows) (i : ℕ) (r : Run) (g : Begun) (h : Invariant d c m) (live : map.get c.runs i ≡ Some r) (k : Knows d h.histories r g) (finds : Inside m h.plain c.book k g.stage) (e : Effect) (is : g.machine.effect ≡ e) where
  -- a call replays: the answer is the one that its instance has
  pub replays_call : (f : ℕ) (v : Value) → e ≡ Call f v → (n : Rows) (a : Answer) (rest : List Answer) → SameRoots m n → Stays h n → k.later ≡ a ∷ rest → Leaves d c m i r g h live k (StageOutput.Answers a None) n
  replays_call f v call n a rest roots kept left =
      answers_on d c m i r g h live k finds a rest n h.histories h.lock_ahead k.instance roots kept k.made (grown_same k.instance) (recorded_prefix k a rest left)
      (subst (λ z. IsTrue (wants_answer z)) (sym (is ∙ call)) refl) (λ o commit x open_there ends owned. let clash = sym (is ∙ call) ∙ ends in cc)
