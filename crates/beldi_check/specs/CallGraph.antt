-- Which function leads to which.
use Rattle.std.specs.Prelude.{◌≡◌, ◌↔◌, ℕ, zero, suc, ◌<◌, ◌==◌, Bool, false, ◌&&◌, ◌||◌, IsTrue, List, [], ◌∷◌, length, slice_get, Option, Some, None, if◌then◌else◌}
use Rattle.std.specs.List.{list_any}
use Rattle.std.proofs.Common.{get_or}
use Rattle.beldi_tree.specs.{declared.deployment.Func.Func, StatementCommand.Command, StatementCommand.call, StatementCommand.async, Bindings.is_name}
use Rattle.beldi_check.specs.{Site.sites_of, declared.calls.Link.TheVariants.Start}
pub use Rattle.beldi_check.specs.declared.calls.Link.{Link}

-- whether a statement leads to the function of this name: calls it, or has it run
abbrev pub leads : Link → List ℕ → Command → Bool
leads k f (call l n g e) = is_name g f
leads Start f (async l g e) = is_name g f
leads k f c = false

-- whether a statement of the function leads to the other one
abbrev pub leads_to : Link → Option Func → Func → Bool
leads_to k None g = false
leads_to k (Some f) g = list_any (λ s. leads k g.name s.1) (sites_of f.body)

-- whether a statement in the first block of a transaction, of any function, leads to this one
abbrev pub leads_within : Link → List Func → Func → Bool
leads_within k fs g = list_any (λ f. list_any (λ s. s.0.in_transaction && leads k g.name s.1) (sites_of f.body)) fs

-- functions have their places as numbers; the number after theirs stands for the first blocks of all transactions
abbrev pub blocks : List Func → ℕ
blocks fs = length fs

abbrev pub edge_to : Link → List Func → ℕ → Option Func → Bool
edge_to k fs i None = false
edge_to k fs i (Some g) = if i == blocks fs then leads_within k fs g else leads_to k (slice_get fs i) g

abbrev pub edge : Link → List Func → ℕ → ℕ → Bool
edge k fs i j = edge_to k fs i (slice_get fs j)

-- in one step, or in two over n
abbrev pub over : (ℕ → ℕ → Bool) → ℕ → ℕ → ℕ → Bool
over e n i j = e i j || (e i n && e n j)

-- whether i leads to j in some steps, with functions below n alone between them
unfoldable pub through : (ℕ → ℕ → Bool) → ℕ → ℕ → ℕ → Bool
through e zero i j = e i j
through e (suc n) i j = over (through e n) n i j

abbrev pub reaches : Link → List Func → ℕ → ℕ → Bool
reaches k fs i j = through (edge k fs) (length fs) i j

abbrev pub at : List Bool → ℕ → Bool
at row j = get_or row j false

abbrev pub row_at : List (List Bool) → ℕ → List Bool
row_at rows i = get_or rows i []

abbrev pub cell : List (List Bool) → ℕ → ℕ → Bool
cell rows i j = at (row_at rows i) j

-- n cells, each of which says it of its number
pub record IsRow (n : ℕ) (f : ℕ → Bool) (row : List Bool) : Type 0 where
  pub all : length row ≡ n
  pub each : (j : ℕ) → j < n → at row j ≡ f j

-- m rows, which say it of each two
pub record IsGrid (m n : ℕ) (e : ℕ → ℕ → Bool) (rows : List (List Bool)) : Type 0 where
  pub all : length rows ≡ m
  pub each : (i : ℕ) → i < m → IsRow n (e i) (row_at rows i)

-- a path from i to j over these functions
abbrev pub IsPath : (ℕ → ℕ → Bool) → ℕ → List ℕ → ℕ → Type 0
IsPath e i [] j = IsTrue (e i j)
IsPath e i (h ∷ hs) j = IsTrue (e i h) × IsPath e h hs j

-- one reaches another exactly where there is a path
abbrev pub ReachesByPaths : Type 0
ReachesByPaths = (k : Link) (fs : List Func) (i j : ℕ) → IsTrue (reaches k fs i j) ↔ ((path : List ℕ) × IsPath (edge k fs) i path j)
