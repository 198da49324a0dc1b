-- The first turn of a run: it finds its body, or registers the one that its call gave it.
use Rattle.beldi_invariant.proofs.Names.{Body, Bool, Core, Deployment, Func, IntentId, IntentMatches, IntentRow, IsAt, IsBodyOf, IsRowOf, Kind, KnowsBody, Look, Machine, None, Option, Register, Invariant, Row, RowKey, Rows, Run, RunTx, Some, [], act, ap, arith, at_begin, begin_in, body_in, body_registered, body_told, cond, false, func_at, got, has_ended, has_no_hops, if◌then◌else◌, intent_key, is_eq, is_some, issued_at, key_cmp, key_in, key_same, key_self, look_asks, looked, machine_begun, open_body, refl, register_asks, root_key, row_of, replied, same_some, set_others, set_row, subst, sym, true, true_false, turn_next, inherited_tx, ℕ, ◌==◌, ◌∙◌, ◌≡◌}
use Rattle.beldi_invariant.proofs.{Moves.AfterTurn, Moves.AfterQuery, Moves.SameRoots, Moves.AfterAct, Moves.Stays, Moves.still, StageTurns.is_over, StageTurns.comes_quiet, StageTurns.knows_next, Keeping.as_it_was, Registered.callee_registered, Registered.log_stays, Registered.no_more, Registered.stays_new, Cases.false_by}
use Rattle.beldi_invariant.proofs.Names.map

-- ---- rows of callees are no rows of roots
is_root_key : Kind → Bool
is_root_key (Kind.Intent id) = has_no_hops id.hops
is_root_key k = false

pub no_root_row : (t home : ℕ) (id : IntentId) → has_no_hops id.hops ≡ false → is_eq (key_cmp (root_key t) (record { home = home; kind = Kind.Intent id })) ≡ false
unfolding is_root_key
no_root_row t home id hops = let key : RowKey = record { home = home; kind = Kind.Intent id } in
    false_by (is_eq (key_cmp (root_key t) key)) (λ e. true_false (ap (λ (k : RowKey). is_root_key k.kind) (key_same (root_key t) key e) ∙ hops))

pub same_roots : (m : Rows) (home : ℕ) (id : IntentId) (v : Option Row) → has_no_hops id.hops ≡ false → SameRoots m (set_row m (record { home = home; kind = Kind.Intent id }) v)
same_roots m home id v hops t = ap is_some (set_others m (record { home = home; kind = Kind.Intent id }) v (root_key t) (no_root_row t home id hops))

module _ (d : Deployment) (c : Core) (m : Rows) (i : ℕ) (r : Run) (h : Invariant d c m) (live : map.get c.runs i ≡ Some r) where
  -- the body, if any, is that of the run's instance, and of its function, and a callee has its row in these rows
  record IsBegun (n : Rows) (b : Body) : Type 0 where
    body : IsBodyOf b (map.get h.histories r.id)
    func : b.func ≡ r.func
    row : has_no_hops r.id.hops ≡ false → is_some (map.get n (key_in r.func r.id)) ≡ true

  MadeWith : Rows → Option Body → Type 0
  MadeWith n None = Unit {0}
  MadeWith n (Some b) = IsBegun n b

  made_in : (n : Rows) (b : Option Body) → ((x : Body) → b ≡ Some x → IsBodyOf x (map.get h.histories r.id)) → (has_no_hops r.id.hops ≡ false → is_some (map.get n (key_in r.func r.id)) ≡ true) → MadeWith n (body_in r.func b)
  unfolding MadeWith
  made_in n None is row = tt
  made_in n (Some b) is row = by_func (b.func == r.func) refl
    where
      by_func : (t : Bool) → (b.func == r.func) ≡ t → MadeWith n (if t then Some b else None)
      by_func t e = grind arith

  made_open : (n : Rows) (j : IntentRow) → IsRowOf j (map.get h.histories r.id) → (has_no_hops r.id.hops ≡ false → is_some (map.get n (key_in r.func r.id)) ≡ true) → MadeWith n (body_in r.func (open_body j))
  unfolding MadeWith
  made_open n j f row = grind arith

  -- one that is told is in its row
  made_told : (home : ℕ) (w : Option Row) → (is_some w ≡ true → has_no_hops r.id.hops ≡ false → is_some (map.get m (key_in r.func r.id)) ≡ true) → IntentMatches (has_ended d h.histories) (has_no_hops r.id.hops) home w (map.get h.histories r.id) → MadeWith m (body_told r.func (replied (act Look c.now w).1))
  unfolding MadeWith
  made_told home None row f = tt
  made_told home (Some (Row.Intent j)) row f = made_open m j (row_of (has_ended d h.histories) (has_no_hops r.id.hops) home j (map.get h.histories r.id) f) (row refl)
  made_told home (Some w) row f = tt

  begins : (n : Rows) → SameRoots m n → Stays h n → (f : Option Func) (b : Option Body) → MadeWith n b → AfterTurn d h.plain c i r (begin_in d r f b) n
  unfolding MadeWith
  begins n roots kept f None made = is_over d c m n i r h live roots kept
  begins n roots kept None (Some b) made = is_over d c m n i r h live roots kept
  begins n roots kept (Some f) (Some b) made =
      let s : Machine × Option RunTx = (machine_begun d r.func b.args (is_some b.tx), inherited_tx b.tx) in
      let j = made.body.instance in
      let body = made.body.body in
      comes_quiet d c m n i r h live roots h.histories h.lock_ahead s b.parent
      (knows_next d c.book n h.plain h.histories h.lock_ahead kept.shows r b.parent j made.body.made (sym (ap (λ z. z.func) body) ∙ made.func) (ap (λ z. z.parent) body) made.row [] s (record { later = j.answers; all = refl })
      (record { machine = subst (λ (z : Body). IsAt d r.func z.args (is_some z.tx) s.0 []) body (at_begin d r.func b.args (is_some b.tx)); open_there = ap (λ z. inherited_tx z.tx) body })
      (λ t z own over less. absurd (omega (arith, less))) None) kept

  -- a callee's row is in the home of its function
  key_is : (func : ℕ) → has_no_hops r.id.hops ≡ false → intent_key r.id func ≡ key_in func r.id
  key_is func hops = λ k. record { home = if hops k then 0 else func; kind = Kind.Intent r.id }

  -- it looks at its row
  pub look_turn : AfterQuery d h.plain c.now m (λ t. turn_next c i r (begin_in d r (func_at d r.func) (body_told r.func t))) (look_asks r.id r.func)
  look_turn =
      let key = intent_key r.id r.func in
      let b = body_told r.func (replied (act Look c.now (map.get m key)).1) in
      subst (AfterTurn d h.plain c i r (begin_in d r (func_at d r.func) b)) (sym (looked c.now key m)) (begins m (λ t. refl) (as_it_was h) (func_at d r.func) b
      (made_told key.home (map.get m key) (λ there hops. ap (λ l. is_some (map.get m l)) (sym (key_is r.func hops)) ∙ there) (h.rows.keys key)))

  -- it registers its body, or finds its row
  module _ (b : Body) (k : KnowsBody h.histories r b) where
    abbrev key : RowKey
    key = record { home = b.func; kind = Kind.Intent r.id }

    at_home : (n : Rows) → is_some (map.get n key) ≡ true → is_some (map.get n (key_in r.func r.id)) ≡ true
    at_home n there = ap (λ f. is_some (map.get n (key_in f r.id))) (sym k.func) ∙ there

    by_row : (w : Option Row) → map.get m key ≡ w → AfterAct d h.plain m key (λ t. turn_next c i r (begin_in d r (func_at d r.func) (body_registered r.func b t))) (act (Register b) c.now w)
    unfolding MadeWith
    by_row None at =
        let new = Some (Row.Intent (issued_at c.now (Some b))) in
        let n = set_row m key new in
        begins n (same_roots m b.func r.id new k.callee) (log_stays d m key new refl c h (stays_new (map.get m key) new at) (no_more d m key new h.histories (λ e. cc)) (callee_registered d m h.histories h.lock_ahead r.id b c.now k.callee k.body h.rows at)) (func_at d r.func) (body_in r.func (Some b))
        (made_in n (Some b) (λ x e. subst (λ z. IsBodyOf z (map.get h.histories r.id)) (same_some e) k.body) (λ hops. at_home n (ap is_some (got m key key new ∙ ap (λ t. cond t new (map.get m key)) (key_self key)))))
    by_row (Some w) at =
        let found = body_told r.func (replied (act Look c.now (Some w)).1) in
        still d h.plain m key (Some w) (sym at) (begins m (λ t. refl) (as_it_was h) (func_at d r.func) found
        (made_told b.func (Some w) (λ there hops. at_home m (ap is_some at)) (subst (λ z. IntentMatches (has_ended d h.histories) (has_no_hops r.id.hops) b.func z (map.get h.histories r.id)) at (h.rows.keys key))))

    pub register_turn : AfterQuery d h.plain c.now m (λ t. turn_next c i r (begin_in d r (func_at d r.func) (body_registered r.func b t))) (register_asks r.id b)
    register_turn = subst (λ z. AfterAct d h.plain m z (λ t. turn_next c i r (begin_in d r (func_at d r.func) (body_registered r.func b t))) (act (Register b) c.now (map.get m z))) (sym (key_is b.func k.callee)) (by_row (map.get m key) refl)
