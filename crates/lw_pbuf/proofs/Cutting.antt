-- What cuts leave of pbufs.
use Rattle.std.proofs.Common.{List, ◌++◌, arith, length-append}
use Rattle.pbuf_seats.specs.Seats.{SeatSeen}
use Rattle.pbuf_spans.specs.Parts.{Part, IsSpent}
use Rattle.pbuf_spans.specs.Cuts.{IsCutTo}
use Rattle.lw_pbuf.proofs.Spans.{rows_in-append, weight_in-append, least_adds-append, all_own-split, all_own-both}

-- a cut of pbufs is a cut of these with others behind them
pub cut_front_of : (h k : SeatSeen) (xs zs ys : List Part) → IsCutTo h k xs zs → IsCutTo h k (xs ++ ys) (zs ++ ys)
cut_front_of h k xs zs ys c = record {
  rows = λ s. let r = c.rows s in let a = rows_in-append xs ys s in let b = rows_in-append zs ys s in omega arith;
  fewer = λ s. let r = c.fewer s in let a = rows_in-append xs ys s in let b = rows_in-append zs ys s in omega arith;
  weight = let r = c.weight in let a = weight_in-append xs ys in let b = weight_in-append zs ys in omega arith;
  parts = let r = c.parts in let a = length-append xs ys in let b = length-append zs ys in omega arith;
  adds = let r = c.adds in let a = least_adds-append xs ys in let b = least_adds-append zs ys in omega arith;
  own = λ o. let s = all_own-split xs ys o in all_own-both zs ys (c.own s.0) s.1;
  same = c.same;
}

-- and with others before them
pub cut_back_of : (h k : SeatSeen) (ys xs zs : List Part) → IsCutTo h k xs zs → IsCutTo h k (ys ++ xs) (ys ++ zs)
cut_back_of h k ys xs zs c = record {
  rows = λ s. let r = c.rows s in let a = rows_in-append ys xs s in let b = rows_in-append ys zs s in omega arith;
  fewer = λ s. let r = c.fewer s in let a = rows_in-append ys xs s in let b = rows_in-append ys zs s in omega arith;
  weight = let r = c.weight in let a = weight_in-append ys xs in let b = weight_in-append ys zs in omega arith;
  parts = let r = c.parts in let a = length-append ys xs in let b = length-append ys zs in omega arith;
  adds = let r = c.adds in let a = least_adds-append ys xs in let b = least_adds-append ys zs in omega arith;
  own = λ o. let s = all_own-split ys xs o in all_own-both ys zs s.0 (c.own s.1);
  same = c.same;
}

-- pbufs that are given up before others are cut off
pub cut_spent_front : (h k : SeatSeen) (xs ys : List Part) → IsSpent h k xs → IsCutTo h k (xs ++ ys) ys
cut_spent_front h k xs ys spent = record {
  rows = λ s. let r = spent.rows s in let a = rows_in-append xs ys s in omega arith;
  fewer = λ s. let a = rows_in-append xs ys s in omega arith;
  weight = let r = spent.weight in let a = weight_in-append xs ys in omega arith;
  parts = let a = length-append xs ys in omega arith;
  adds = let a = least_adds-append xs ys in omega arith;
  own = λ o. (all_own-split xs ys o).1;
  same = spent.same;
}

-- and behind them
pub cut_spent_back : (h k : SeatSeen) (ys xs : List Part) → IsSpent h k xs → IsCutTo h k (ys ++ xs) ys
cut_spent_back h k ys xs spent = record {
  rows = λ s. let r = spent.rows s in let a = rows_in-append ys xs s in omega arith;
  fewer = λ s. let a = rows_in-append ys xs s in omega arith;
  weight = let r = spent.weight in let a = weight_in-append ys xs in omega arith;
  parts = let a = length-append ys xs in omega arith;
  adds = let a = least_adds-append ys xs in omega arith;
  own = λ o. (all_own-split ys xs o).0;
  same = spent.same;
}
