-- The rows of the table that the requests put in their order. Those of a dossier's own bytes and of an output area stand in dossier/specs/Refusing.antt. Document 01, "Refusal numbers". Assumes nothing: these are definitions.
use Rattle.std.specs.Prelude.{◌≢◌, ℕ, ◌*◌, ◌≤◌, ◌<◌, List, length}
use Rattle.dossier.specs.Limits.{width, most_elements}
use Rattle.dossier.specs.declared.elements.Mark.{Mark}
use Rattle.dossier.specs.Bytes.{records}
use Rattle.dossier.specs.Reading.{fields_at}
use Rattle.dossier.specs.Table.{TooDeep, OutOfOrder, BadField}
use Rattle.dossier.specs.Refusing.{Refusals, row}
use Rattle.rules.specs.Rules.{rules_of}
use Rattle.rules.specs.RuleTable.{RuleRow}
use Rattle.rules.specs.Combining.{last_combining}
use Rattle.marks.specs.Stepping.{Leaves}
use Rattle.marks.specs.declared.Walk.{Walk}
use Rattle.listing.specs.Back.{Gives}
use Rattle.view.specs.View.{IsView}

-- 2, 3 and 7, of a rule list over the dossier
abbrev pub in_rules : List ℕ → ℕ → List ℕ → Refusals
in_rules d list rs = RuleRow d list rs

-- 8: the output area is shorter than the view to be written
abbrev pub too_short_for_view : List ℕ → List ℕ → Refusals
too_short_for_view d area = row 8 0 0 ((shown : List (List ℕ)) × IsView d shown × (length area < length shown * width))

-- 9: no marks of this dossier give this rule list
abbrev pub no_marks : List ℕ → List ℕ → Refusals
no_marks d rs = row 9 1 0 ((ms : List Mark) → Gives d ms (rules_of rs) → ⊥)

-- 10: the element asked for isn't there
abbrev pub no_element : List ℕ → ℕ → Refusals
no_element d i = row 10 0 0 (records d ≤ i)

-- 11: combining number over the last, 2
abbrev pub no_combining : ℕ → Refusals
no_combining c = row 11 0 0 (last_combining < c)

-- ---- of a walk step

-- 17: a walk that no accepted records after a fresh one could leave
abbrev pub never_left : Walk → Refusals
never_left w = row 17 0 0 (Leaves w → ⊥)

-- 2: the record isn't eight bytes
abbrev pub not_one_record : List ℕ → Refusals
not_one_record r = row 2 0 0 (length r ≢ width)

-- 3: so many records are already taken
abbrev pub all_taken : Walk → Refusals
all_taken w = row 3 0 0 (most_elements ≤ w.taken)

-- 5, 4 and 6: the position is the number of records taken so far. A record alone is record 0
abbrev pub too_deep : Walk → List ℕ → Refusals
too_deep w r = row 5 0 w.taken (TooDeep (fields_at r 0))

abbrev pub out_of_order : Walk → List ℕ → Refusals
out_of_order w r = row 4 0 w.taken (OutOfOrder w.taken w.depth (fields_at r 0))

abbrev pub bad_field : Walk → List ℕ → Refusals
bad_field w r = row 6 0 w.taken (BadField (fields_at r 0))
