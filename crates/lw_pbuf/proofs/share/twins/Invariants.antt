use Rattle.std.proofs.Common.{◌≡◌, ◌≤◌, length, take}
use Rattle.std.specs.Prelude.{vec_capacity}
use Rattle.std.specs.List.{AllZip}
use Rattle.pbuf_spans.specs.Shares.{IsTwin}
use Rattle.lw_pbuf.proofs.share.twins.Given as goal

abbrev pub invariant-loop-span : goal.invariant-loop-span
invariant-loop-span l = record {
  twins : AllZip IsTwin (take l.span-index l.spans) l.twins.items;
  room : length l.spans ≤ vec_capacity l.twins;
  same : l.seat ≡ l.fn.seat;
}
