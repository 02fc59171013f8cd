-- The fields that an edit writes.
use Rattle.std.specs.Prelude.{ℕ, List, [], ◌++◌}
use Rattle.std.specs.List.{flat_map}
use Rattle.dgn_drawing.specs.declared.edit.Edit.{Edit}
use Rattle.dgn_drawing.specs.declared.edit.Edit.TheVariants as edit
use Rattle.dgn_drawing.specs.Element.{Element}
use Rattle.edit_ops.specs.Trees.{Live, reached, above_tree}
use Rattle.edit_ops.specs.Fields.{Field}
use Rattle.edit_ops.specs.Rules.{Rule, rule_of}

-- the fields of elements that a row reaches, and of headers
abbrev pub live_fields : Rule → List Live → List Field
live_fields r vs = flat_map (λ v. r.fields v.place v.element) vs

abbrev pub above_fields : Rule → List Live → List Field
above_fields r vs = flat_map (λ v. r.over v.place v.element) vs

-- those of the headers above the part of element n, and those of the elements that the row reaches in it
abbrev pub part_fields : Rule → List Element → ℕ → List Field
part_fields r es n = above_fields r (above_tree es n) ++ live_fields r (reached r.reach es n)

-- the fields that an edit writes. What appends writes none
abbrev pub edited_fields : ℕ → List Element → Edit → List Field
edited_fields dim es (edit.Move n by) = part_fields (rule_of dim (edit.Move n by)) es n
edited_fields dim es (edit.Copy n by) = []
edited_fields dim es (edit.Sym n change) = part_fields (rule_of dim (edit.Sym n change)) es n
edited_fields dim es (edit.Delete n) = part_fields (rule_of dim (edit.Delete n)) es n
edited_fields dim es (edit.Append new) = []
