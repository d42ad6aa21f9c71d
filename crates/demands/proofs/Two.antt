-- Demand 2 holds. Assumes nothing.
use Rattle.marks.proofs.Keeping.{gateway_answers}
use Rattle.demands.specs.Demand2.{Demand2}
use Rattle.demands.proofs.Decisions.{decided, deciding-rule, deciding-none}
use Rattle.demands.proofs.AnyMarks.{listed, counted, decided_as_marked, read_back, no_marks_refused}

pub demand_2 : Demand2
demand_2 = record {
  decided = decided;
  deciding-rule = deciding-rule;
  deciding-none = deciding-none;
  listed = listed;
  counted = counted;
  decided_as_marked = decided_as_marked;
  stepped_as_marked = gateway_answers;
  read_back = read_back;
  no_marks_refused = no_marks_refused;
}
