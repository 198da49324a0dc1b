-- The same bytes come to one question, and to one response.
use Rattle.std.proofs.Common.{Bool, Err, List, Ok, Option, Result, [], ap, drop, false, if◌then◌else◌, inl, inr, nat_le, subst, sym, take, true, ℕ, ◌∙◌, ◌≡◌}
use Rattle.httparse.proofs.GrammarLemmas.{request_unique}
use Rattle.httparse.specs.Grammar.{RequestHead}
use Rattle.beldi_gateway.specs.{declared.response.Refusal.Refusal, declared.response.Response.Response, declared.scan.Scan.Scan, Exchange.Exchanges, Exchange.FewLines, Exchange.HeadComes, Exchange.HeadEnds, Exchange.IsHead, Exchange.Question, Exchange.after_head, Exchange.wanted_by, GatewayLaws.AnswersAlike, GatewayLaws.HasOneAnswer, Route.path_of, Scan.scan_on, Scan.start, Serve.Answered, Serve.Keeps}

module _ (funcs : List ℕ → Option ℕ) where
  abbrev Comes : Type 0
  Comes = Result Question Refusal

  one_head : (head rest : List ℕ) (h k : RequestHead) → IsHead head h → IsHead head k → after_head funcs (wanted_by k) (path_of k.target) rest ≡ after_head funcs (wanted_by h) (path_of h.target) rest
  one_head head rest h k x y = ap (λ g. after_head funcs (wanted_by g) (path_of g.target) rest) (sym (request_unique head h k [] [] x.reads y.reads).0)

  one_comes : (head rest : List ℕ) (c d : Comes) → HeadComes funcs head rest c → HeadComes funcs head rest d → d ≡ c
  one_comes head rest c d (inl x) (inl y) = y.2 ∙ one_head head rest x.0 y.0 x.1 y.1 ∙ sym x.2
  one_comes head rest c d (inl x) (inr y) = absurd (y.0 x.0 x.1)
  one_comes head rest c d (inr x) (inl y) = absurd (x.0 y.0 y.1)
  one_comes head rest c d (inr x) (inr y) = y.1 ∙ sym x.1

  by_lines : (v : Bool) (head rest : List ℕ) (c d : Comes) → FewLines funcs v head rest c → FewLines funcs v head rest d → d ≡ c
  by_lines true head rest c d x y = one_comes head rest c d x y
  by_lines false head rest c d x y = y ∙ sym x

  by_end : (v : Bool) (s : Scan) (bytes : List ℕ) (c d : Comes) → HeadEnds funcs v s bytes c → HeadEnds funcs v s bytes d → d ≡ c
  by_end true s bytes c d x y = by_lines (nat_le s.lines 65) (take s.size bytes) (drop s.size bytes) c d x y
  by_end false s bytes c d x y = y ∙ sym x

  pub one_question : (bytes : List ℕ) (c d : Comes) → Exchanges funcs bytes c → Exchanges funcs bytes d → d ≡ c
  one_question bytes c d x y = by_end (if nat_le (scan_on start bytes).size 16384 then (scan_on start bytes).over else false) (scan_on start bytes) bytes c d x y

module _ {D : Type 0} (funcs : D → List ℕ → Option ℕ) (keeps : Keeps D) where
  alike : (c : Result Question Refusal) (d e f : D) (x y : Response) → Answered keeps c d x e → Answered keeps c d y f → AnswersAlike keeps d x e y f
  alike (Err r) d e f x y h k = inl (k.0 ∙ sym h.0, h.1, k.1)
  alike (Ok q) d e f x y h k = inr (q, h, k)

  pub one_answer : HasOneAnswer funcs keeps
  one_answer before after later a b c d took x y h k =
      alike h.comes before after later x y h.answered (subst (λ z. Answered keeps z before y later) (one_question (funcs before) took h.comes k.comes h.exchange k.exchange) k.answered)
