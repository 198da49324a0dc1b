-- The source that is generated from a seed.
use Rattle.std.specs.Prelude.{ℕ, zero, suc, ◌+◌, ◌*◌, ◌/◌, ◌%◌, ◌==◌, List, [], ◌++◌, if◌then◌else◌, codes}
use Rattle.std.specs.Fmt.{decimal}

-- ---- draws: each makes the next seed, and gives what stands above its lowest 16 bits
abbrev pub next_seed : ℕ → ℕ
next_seed x = (x * 1103515245 + 12345) % 2147483648

abbrev pub drawn : ℕ → ℕ
drawn x = x / 65536

-- the seed after five draws
abbrev pub fifth : ℕ → ℕ
fifth x = next_seed (next_seed (next_seed (next_seed (next_seed x))))

-- ---- the text
-- a bank: a transfer between two accounts, of which each begins with 100
abbrev pub bank : List ℕ
bank = codes "life 1000000;\n"
    ++ (codes "function bank(x) { table acct; transaction { read a = acct[x.from]; if a == null { set a = 100; }\n"
    ++ (codes "  read b = acct[x.to]; if b == null { set b = 100; }\n"
    ++ (codes "  write acct[x.from] = a - x.n; write acct[x.to] = b + x.n; } aborted { return false; } return true; }\n"
    ++ codes "script\n")))

-- a request for a transfer: up to its arguments; the account that it is from; how much, and the account that it is to
abbrev pub front_text : ℕ → List ℕ
front_text ticket = codes "ticket\nrequest " ++ (decimal ticket ++ codes " bank ")

abbrev pub from_text : ℕ → List ℕ
from_text from = codes "{\"from\":\"a" ++ (decimal from ++ codes "\",\"n\":")

abbrev pub to_text : ℕ → ℕ → List ℕ
to_text amount to = decimal amount ++ (codes ",\"to\":\"a" ++ (decimal to ++ codes "\"}\n"))

abbrev pub transfer_text : ℕ → ℕ → ℕ → ℕ → List ℕ
transfer_text ticket from to amount = front_text ticket ++ (from_text from ++ to_text amount to)

-- what comes of a run: it crashes, or is given turns
abbrev pub fate_text : ℕ → ℕ → List ℕ
fate_text run fate = if fate % 8 == 0 then codes "crash " ++ (decimal run ++ codes "\n") else codes "turn " ++ (decimal run ++ (codes " " ++ (decimal (1 + fate % 20) ++ codes "\n")))

-- .. by the five draws
abbrev pub request_text : ℕ → ℕ → ℕ → ℕ → ℕ → ℕ → List ℕ
request_text ticket a b c d e = transfer_text ticket (a % 8) ((a % 8 + 1 + b % 7) % 8) (c % 100) ++ fate_text (1 + d % ticket) e

-- .. by the seed before them
abbrev pub request_of : ℕ → ℕ → List ℕ
request_of ticket x =
    let a = next_seed x in
    let b = next_seed a in
    let c = next_seed b in
    let d = next_seed c in
    request_text ticket (drawn a) (drawn b) (drawn c) (drawn d) (drawn (next_seed d))

-- so many requests, from this ticket on
abbrev pub requests_from : ℕ → ℕ → ℕ → List ℕ
requests_from zero ticket x = []
requests_from (suc n) ticket x = request_of ticket x ++ requests_from n (ticket + 1) (fifth x)

abbrev pub generated : ℕ → ℕ → List ℕ
generated seed requests = bank ++ (requests_from requests 1 seed ++ codes "settle 4000000000\n")
