-- What one exchange takes, asks and writes.
use Rattle.std.specs.Prelude.{◌≡◌, ℕ, ◌<◌, ◌≤◌, ◌⊎◌, false, List, [], ◌++◌, length, Option, Some, None, Result, Ok, Err}
use Rattle.beldi_outside.specs.{Outside.IsPrefixOf, Connection.Connections}
use Rattle.beldi_gateway.specs.{declared.response.Refusal.Refusal, declared.response.Response.Response, declared.response.Response.TheVariants.Refused, declared.serve.Served.Served, declared.serve.Served.TheVariants.Status, declared.serve.Served.TheVariants.Silent, declared.serve.Served.TheVariants.Fault, Exchange.Question, Exchange.Exchanges, Exchange.with_body, declared.plan.Want.Want, declared.scan.Scan.Scan, HttpResponse.response_bytes, HttpResponse.status_of, Taking.Moves, Taking.EndsAt, Taking.Gathers, Taking.Lost}

-- what a desk may say: the desk before, the question, what it says, and the desk after
abbrev pub Keeps : Type 0 → Type 1
Keeps D = D → Question → Response → D → Type 0

-- a refusal is answered without the desk, and a question with what the desk says to it
abbrev pub Answered : {D : Type 0} → Keeps D → Result Question Refusal → D → Response → D → Type 0
Answered keeps (Err r) d x e = (x ≡ Refused r) × (e ≡ d)
Answered keeps (Ok q) d x e = keeps d q x e

-- the same, or memory was short and nothing was asked
abbrev pub Asked : {D E : Type 0} → Keeps D → Result Question Refusal → D → Result Response E → D → Type 0
Asked keeps q d (Ok x) e = Answered keeps q d x e
Asked keeps q d (Err why) e = e ≡ d

-- the body came, whole where the connection did not end
abbrev pub BodyComes : {V E : Type 0} → (V → List ℕ) → Option Connections → Option Connections → List ℕ → ℕ → Result V E → Type 0
BodyComes items a b rest size (Ok v) = Gathers a b rest (items v) × ((size ≤ length (items v)) ⊎ EndsAt a b)
BodyComes items a b rest size (Err e) = Lost a b

-- a response was written, or a front of it
abbrev pub Replies : {E : Type 0} → Response → Option Connections → Option Connections → Result ℕ E → Type 0
Replies x a b (Ok n) = (n ≡ status_of x) × Moves [] (response_bytes x) a b
Replies x a b (Err e) = (wrote : List ℕ) × IsPrefixOf wrote (response_bytes x) × Moves [] wrote a b

module _ {D : Type 0} (funcs : List ℕ → Option ℕ) (keeps : Keeps D) where
  -- the response to what a head wants: the bytes that were taken behind the rest, and what was asked
  pub record Filled (want : Want) (path rest : List ℕ) (before after : D) (a b : Option Connections) (x : Response) : Type 0 where
    pub took : List ℕ
    pub moves : Moves took [] a b
    pub answered : Answered keeps (with_body funcs want path (rest ++ took)) before x after
    pub ends : with_body funcs want path (rest ++ took) ≡ Err Refusal.Cut → EndsAt a b

  abbrev pub FillsPlan : {E : Type 0} → Want → List ℕ → List ℕ → D → D → Option Connections → Option Connections → Result Response E → Type 0
  FillsPlan want path rest before after a b (Ok x) = Filled want path rest before after a b x
  FillsPlan want path rest before after a b (Err e) = (after ≡ before) × Lost a b

  -- the response to bytes that were gathered, and to those of the body
  pub record Replied (scan : Scan) (bytes : List ℕ) (before after : D) (a b : Option Connections) (x : Response) : Type 0 where
    pub took : List ℕ
    pub comes : Result Question Refusal
    pub moves : Moves took [] a b
    pub exchange : Exchanges funcs (bytes ++ took) comes
    pub answered : Answered keeps comes before x after
    pub ends : comes ≡ Err Refusal.Cut → EndsAt a b ⊎ ((took ≡ []) × (scan.over ≡ false) × (length bytes < 16384))

  abbrev pub AnswersTo : {E : Type 0} → Scan → List ℕ → D → D → Option Connections → Option Connections → Result Response E → Type 0
  AnswersTo scan bytes before after a b (Ok x) = Replied scan bytes before after a b x
  AnswersTo scan bytes before after a b (Err e) = (after ≡ before) × Lost a b

  -- the response is that of the bytes that were taken, and of what the desk said
  pub record Decided (before after : D) (a b : Option Connections) (took : List ℕ) (x : Response) : Type 0 where
    pub comes : Result Question Refusal
    pub exchange : Exchanges funcs took comes
    pub ends : comes ≡ Err Refusal.Cut → EndsAt a b
    pub answered : Answered keeps comes before x after

  -- a whole response was written
  pub record Whole (before after : D) (a b : Option Connections) (status : ℕ) : Type 0 where
    pub took : List ℕ
    pub some : ¬ (took ≡ [])
    pub response : Response
    pub decided : Decided before after a b took response
    pub is : status ≡ status_of response
    pub moves : Moves took (response_bytes response) a b

  -- nothing was asked and written
  pub record Untouched (before after : D) (a b : Option Connections) : Type 0 where
    pub took : List ℕ
    pub same : after ≡ before
    pub moves : Moves took [] a b

  -- a front of a response was written, which may be empty
  pub record ResponsePrefix (before after : D) (a b : Option Connections) : Type 0 where
    pub took : List ℕ
    pub wrote : List ℕ
    pub response : Response
    pub decided : Decided before after a b took response
    pub front : IsPrefixOf wrote (response_bytes response)
    pub moves : Moves took wrote a b

  abbrev pub Broken : D → D → Option Connections → Option Connections → Type 0
  Broken before after a b = Untouched before after a b ⊎ ResponsePrefix before after a b

  -- a response was written, or the connection ended before any byte; else a front of one at most was written
  abbrev pub Exchanged : {E : Type 0} → D → D → Option Connections → Option Connections → Result (Option ℕ) E → Type 0
  Exchanged before after a b (Ok (Some n)) = Whole before after a b n
  Exchanged before after a b (Ok None) = (after ≡ before) × Moves [] [] a b × EndsAt a b
  Exchanged before after a b (Err e) = Broken before after a b

  -- one exchange; the connection ended before any byte just where it is silent
  abbrev pub Serves : {E : Type 0} → D → D → Option Connections → Option Connections → Result Served E → Type 0
  Serves before after a b (Ok (Status n)) = Whole before after a b n
  Serves before after a b (Ok Silent) = (after ≡ before) × Moves [] [] a b × EndsAt a b
  Serves before after a b (Ok Fault) = Broken before after a b
  Serves before after a b (Err e) = Broken before after a b
