-- The grammar `run | check | serve --port P --requests M | gen SEED N`: the command that words ask for.
use Rattle.std.specs.Prelude.{ℕ, ◌==◌, ◌||◌, List, [], ◌∷◌, Option, Some, None, option_and_then, codes, if◌then◌else◌}
use Rattle.std.specs.{Option.option_map_or, Str.bytes_eq}
use Rattle.beldi_command.specs.declared.command.Command.{Command, TheVariants.Run, TheVariants.Check, TheVariants.Serve, TheVariants.Gen}
use Rattle.beldi_value.specs.Number.{numeral_at}

-- to serve, by the port and how many connections: at least 1 of each
abbrev pub serve_by : Option ℕ → Option ℕ → Option Command
serve_by (Some port) (Some requests) = if port == 0 || requests == 0 then None else Some (Serve port requests)
serve_by port requests = None

-- .. by their words: numbers in decimal, without leading zeros
abbrev pub serve_of : List ℕ → List ℕ → Option Command
serve_of port requests = serve_by (numeral_at 65535 port) (numeral_at 1000000 requests)

-- what a word says behind this front of it
abbrev pub behind : List ℕ → List ℕ → Option (List ℕ)
behind [] word = Some word
behind (b ∷ front) [] = None
behind (b ∷ front) (x ∷ word) = if x == b then behind front word else None

-- the value of an option by what its word says behind its name, and the words after it: the value is the next word, or stands behind `=`
abbrev pub valued : Option (List ℕ) → List (List ℕ) → Option (List ℕ × List (List ℕ))
valued (Some []) (value ∷ rest) = Some (value, rest)
valued (Some (b ∷ value)) rest = if b == 61 then Some (value, rest) else None
valued said rest = None

-- .. of this option, as the first of the words: `--port 8080` or `--port=8080`
abbrev pub option_first : List ℕ → List (List ℕ) → Option (List ℕ × List (List ℕ))
option_first option [] = None
option_first option (word ∷ rest) = valued (behind option word) rest

-- the value, where no words come after it
abbrev pub last_value : List ℕ × List (List ℕ) → Option (List ℕ)
last_value (value, []) = Some value
last_value (value, word ∷ rest) = None

-- the value of this option, where it is all that the words say
abbrev pub option_alone : List ℕ → List (List ℕ) → Option (List ℕ)
option_alone option words = option_and_then last_value (option_first option words)

-- the port came first, and the requests are all that follows; and the other way about
abbrev pub after_port : List ℕ × List (List ℕ) → Option Command
after_port p = option_and_then (λ requests. serve_of p.0 requests) (option_alone (codes "--requests") p.1)

abbrev pub after_requests : List ℕ × List (List ℕ) → Option Command
after_requests p = option_and_then (λ port. serve_of port p.0) (option_alone (codes "--port") p.1)

-- both options, each once, in either order
abbrev pub serve_with : List (List ℕ) → Option Command
serve_with words = option_map_or after_port (option_first (codes "--port") words) (option_and_then after_requests (option_first (codes "--requests") words))

-- generated work, by its seed and how many requests it has: at least one
abbrev pub gen_by : Option ℕ → Option ℕ → Option Command
gen_by (Some seed) (Some requests) = if requests == 0 then None else Some (Gen seed requests)
gen_by seed requests = None

-- .. by their words
abbrev pub gen_of : List ℕ → List ℕ → Option Command
gen_of seed requests = gen_by (numeral_at 2147483647 seed) (numeral_at 1000 requests)

abbrev pub gen_with : List (List ℕ) → Option Command
gen_with (seed ∷ requests ∷ []) = gen_of seed requests
gen_with words = None

-- a command that takes no words
abbrev pub plainly : Command → List (List ℕ) → Option Command
plainly command [] = Some command
plainly command (word ∷ rest) = None

-- the command of this name with these words
abbrev pub named_with : List ℕ → List (List ℕ) → Option Command
named_with name rest =
    if bytes_eq name (codes "run") then plainly Run rest
    else if bytes_eq name (codes "check") then plainly Check rest
    else if bytes_eq name (codes "serve") then serve_with rest
    else None

-- what the words ask for, where it is no generated work
abbrev pub named_of : List (List ℕ) → Option Command
named_of [] = None
named_of (name ∷ rest) = named_with name rest

-- the command that the words ask for: a name, and what it takes
abbrev pub command_of : List (List ℕ) → Option Command
command_of [] = None
command_of (name ∷ rest) = if bytes_eq name (codes "gen") then gen_with rest else named_with name rest
