-- Laws of an exchange: which path is of which form, what question it asks, and that the same bytes lead to one question.
use Rattle.std.specs.Prelude.{◌≡◌, ◌⊎◌, ℕ, ◌==◌, ◌<◌, ◌^◌, Bool, false, not, IsTrue, List, [], ◌∷◌, ◌++◌, Option, Some, Result, Ok, codes, decimal}
use Rattle.std.specs.{List.AllByRecursion, List.list_all, Str.is_utf8}
use Rattle.beldi_outside.specs.Connection.{Connections}
use Rattle.beldi_gateway.specs.{declared.response.Refusal.Refusal, declared.response.Response.Response, declared.route.Endpoint.Endpoint, declared.route.Endpoint.TheVariants.Tickets, declared.route.Endpoint.TheVariants.Call, declared.route.Endpoint.TheVariants.Reply, Exchange.Question, Exchange.ask_call, Exchange.ask_reply, Exchange.ask_ticket, Exchange.Exchanges, Exchange.args_at, Exchange.question_of, Route.endpoint_at, Serve.Keeps, Serve.Decided}

-- a part of a path: a byte at least, and no slash
abbrev pub is_part : List ℕ → Bool
is_part [] = false
is_part (b ∷ bs) = list_all (λ c. not (c == 47)) (b ∷ bs)

abbrev pub call_path : List ℕ → List ℕ → List ℕ
call_path function ticket = codes "/call/" ++ (function ++ (codes "/" ++ ticket))

abbrev pub reply_path : List ℕ → List ℕ
reply_path ticket = codes "/reply/" ++ ticket

-- the forms of paths
abbrev pub HasForm : Endpoint → List ℕ → Type 0
HasForm Tickets path = path ≡ codes "/tickets"
HasForm Call path = (function : List ℕ) × (ticket : List ℕ) × IsTrue (is_part function) × IsTrue (is_part ticket) × (path ≡ call_path function ticket)
HasForm Reply path = (ticket : List ℕ) × IsTrue (is_part ticket) × (path ≡ reply_path ticket)

-- each is a byte
abbrev pub AreBytes : List ℕ → Type 0
AreBytes bytes = AllByRecursion (λ b. b < 256) bytes

-- a path is for an endpoint just where it is UTF-8 and has the endpoint's form
pub record IsJustForm (path : List ℕ) (e : Endpoint) : Type 0 where
  pub formed : endpoint_at path ≡ Some e → IsTrue (is_utf8 path) × HasForm e path
  pub found : IsTrue (is_utf8 path) → HasForm e path → endpoint_at path ≡ Some e

abbrev pub PathsHaveForms : Type 0
PathsHaveForms = (path : List ℕ) (e : Endpoint) → AreBytes path → IsJustForm path e

-- ---- the question of a request
-- by the text of its path: a ticket is in decimal, below 2^32, and a function's part is its name
abbrev pub Asks : (List ℕ → Option ℕ) → List ℕ → List ℕ → Question → Type 0
Asks funcs path body ask_ticket = path ≡ codes "/tickets"
Asks funcs path body (ask_call t f d) =
    (name : List ℕ) × IsTrue (is_part name) × (t < 2 ^ 32) × (funcs name ≡ Some f) × (args_at body ≡ Some d) × (path ≡ call_path name (decimal t))
Asks funcs path body (ask_reply t) = (t < 2 ^ 32) × (path ≡ reply_path (decimal t))

-- a request asks a question just where its path and its body are of that text
pub record IsJustText (funcs : List ℕ → Option ℕ) (path body : List ℕ) (q : Question) : Type 0 where
  pub written : (e : Endpoint) → endpoint_at path ≡ Some e → question_of funcs e path body ≡ Ok q → Asks funcs path body q
  pub asked : IsTrue (is_utf8 path) → Asks funcs path body q → (e : Endpoint) × (endpoint_at path ≡ Some e) × (question_of funcs e path body ≡ Ok q)

abbrev pub QuestionsAreWritten : Type 0
QuestionsAreWritten = (funcs : List ℕ → Option ℕ) (path body : List ℕ) (q : Question) → AreBytes path → IsJustText funcs path body q

-- ---- one exchange
-- the same bytes come to one question, or to one refusal
abbrev pub BytesComeToOne : Type 0
BytesComeToOne = (funcs : List ℕ → Option ℕ) (bytes : List ℕ) (c d : Result Question Refusal) → Exchanges funcs bytes c → Exchanges funcs bytes d → d ≡ c

-- two responses of a desk that stood alike: the same refusal, which the desk does not hear of, or its words to the same question
abbrev pub AnswersAlike : {D : Type 0} → Keeps D → D → Response → D → Response → D → Type 0
AnswersAlike keeps d x e y f = ((y ≡ x) × (e ≡ d) × (f ≡ d)) ⊎ ((q : Question) × keeps d q x e × keeps d q y f)

-- where the same bytes were taken, and the desk stood alike
abbrev pub HasOneAnswer : {D : Type 0} → (D → List ℕ → Option ℕ) → Keeps D → Type 0
HasOneAnswer {D} funcs keeps =
    (before after later : D) (a b c d : Option Connections) (took : List ℕ) (x y : Response)
    → Decided (funcs before) keeps before after a b took x → Decided (funcs before) keeps before later c d took y → AnswersAlike keeps before x after y later
