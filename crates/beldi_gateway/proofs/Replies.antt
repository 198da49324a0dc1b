-- What is answered to the bytes that were gathered.
use Rattle.beldi_gateway.proofs.Names.{AnswersTo, Connections, Err, Exchanges, Filled, FillsPlan, Keeps, List, Ok, Option, Plan, PlanAt, Refusal, Refused, Replied, Response, Result, Scan, [], append-nil, arith, drop, inl, inr, length, path_of, refl, scan_on, span_bytes, start, subst, sym, take, with_body, ℕ, ◌++◌, ◌≡◌, ◌≤◌}
use Rattle.beldi_gateway.proofs.{Answers.planned, Answers.refused, Cuts.plan_cut, Moves.moves_none}

module _ {D : Type 0} (funcs : List ℕ → Option ℕ) (keeps : Keeps D) where
  -- the answer where the bytes are refused, and where they are a plan
  pub replied_refused : (s : Scan) (x : List ℕ) (r : Refusal) (before : D) (a : Option Connections) → s ≡ scan_on start x → s.size ≤ length x → length x ≤ 16384 → PlanAt s x (Err r)
      → Replied funcs keeps s x before before a a (Refused r)
  replied_refused s x r before a is fits small p = record {
    took = [];
    comes = Err r;
    moves = moves_none a;
    exchange = subst (λ z. Exchanges funcs z (Err r)) (sym (append-nil x)) (refused funcs s x r is (omega arith) p);
    answered = (refl, refl);
    ends = λ e. let c = plan_cut s x r p cc in inr (refl, c.0, c.1);
  }

  replied_plan : (s : Scan) (x path rest : List ℕ) (p : Plan) (before after : D) (a b : Option Connections) (r : Response) → s ≡ scan_on start x → s.size ≤ length x → length x ≤ 16384
      → PlanAt s x (Ok p) → path ≡ path_of (span_bytes (take s.size x) p.target) → rest ≡ drop s.size x → Filled funcs keeps p.want path rest before after a b r → Replied funcs keeps s x before after a b r
  replied_plan s x path rest p before after a b r is fits small h at behind f = record {
    took = f.took;
    comes = with_body funcs p.want path (rest ++ f.took);
    moves = f.moves;
    exchange = subst (λ z. Exchanges funcs (x ++ f.took) (with_body funcs p.want z (rest ++ f.took))) (sym at)
        (subst (λ z. Exchanges funcs (x ++ f.took) (with_body funcs p.want (path_of (span_bytes (take s.size x) p.target)) (z ++ f.took))) (sym behind) (planned funcs s x f.took p is fits (omega arith) h));
    answered = f.answered;
    ends = λ e. inl (f.ends e);
  }

  pub answers_plan : {E : Type 0} (s : Scan) (x path rest : List ℕ) (p : Plan) (before after : D) (a b : Option Connections) (r : Result Response E) → s ≡ scan_on start x → s.size ≤ length x → length x ≤ 16384
      → PlanAt s x (Ok p) → path ≡ path_of (span_bytes (take s.size x) p.target) → rest ≡ drop s.size x → FillsPlan funcs keeps p.want path rest before after a b r → AnswersTo funcs keeps s x before after a b r
  answers_plan s x path rest p before after a b (Ok r) is fits small h at behind f = replied_plan s x path rest p before after a b r is fits small h at behind f
  answers_plan s x path rest p before after a b (Err e) is fits small h at behind f = f
