use Rattle.beldi_gateway.proofs.Names.{All, IsHeaderWithin, framed_by, header_bytes, length, map, plain, ◌≡◌}
use Rattle.beldi_gateway.proofs.framing.framing_of.Given as goal

abbrev pub invariant-loop-rest : goal.invariant-loop-rest
invariant-loop-rest l =
    record {
      within : All (IsHeaderWithin (length l.head)) l.rest;
      framing : framed_by l.framing (map (header_bytes l.head) l.rest) ≡ framed_by plain (map (header_bytes l.head) l.spans);
    }

abbrev pub decreases-loop-rest : goal.decreases-loop-rest
decreases-loop-rest l = length l.rest
