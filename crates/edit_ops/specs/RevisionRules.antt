-- What a revision does to elements, as a row: what is put into the bytes of each element that it reaches, and what becomes
-- of the headers above. A text that has no room for its characters is marked deleted, and a longer one stands behind the
-- drawing.
use Rattle.std.specs.Prelude.{ℕ, ℤ, ◌+◌, nat_lt, Bool, true, false, if◌then◌else◌, List, [], ◌∷◌, length, map, slice_get, Option, Some, None}
use Rattle.dgn_layout.specs.Spots.{range_spots}
use Rattle.patch_bytes.specs.Puts.{Put}
use Rattle.dgn_drawing.specs.Element.{Element}
use Rattle.dgn_drawing.specs.Spelling.{spell}
use Rattle.dgn_drawing.specs.Changes.{widen}
use Rattle.dgn_revision.specs.declared.revision.Revision.{Revision}
use Rattle.dgn_revision.specs.declared.revision.Revision.TheVariants as revision
use Rattle.dgn_revision.specs.Stretches.{Stretch}
use Rattle.dgn_revision.specs.Revising.{relevelled, locked, unmarked, renamed, room, retexted, longer_text, range_at_point, with_vertex}
use Rattle.dgn_revision.specs.RevisionPuts.{level_fields, level_puts, lock_fields, lock_puts, mark_fields, unmark_puts, name_fields, name_puts}
use Rattle.dgn_revision.specs.RevisionPuts.{text_fields, text_puts, vertex_fields, vertex_puts}
use Rattle.edit_ops.specs.Fields.{Field, spot_fields}
use Rattle.edit_ops.specs.Trees.{Reach, Living, Every, Head}
use Rattle.edit_ops.specs.Rules.{Rule, wider_puts, deleting}

-- stretches, and puts, of an element that begins at byte p
abbrev pub placed_fields : ℕ → List Stretch → List Field
placed_fields p stretches = map (λ s. record { at = p + s.at; len = s.len }) stretches

abbrev pub placed_puts : ℕ → List Put → List Put
placed_puts p puts = map (λ q. record { at = p + q.at; bytes = q.bytes }) puts

-- a row that leaves the headers above
abbrev pub revising : Reach → (Element → Element) → (Element → List Stretch) → (Element → List Put) → Rule
revising reach made fields puts = record {
  reach = reach;
  made = made;
  above = λ head header. header;
  fields = λ p e. placed_fields p (fields e);
  over = λ p header. [];
  puts = λ p e. placed_puts p (puts e);
  over_puts = λ head p header. [];
}

-- another level, and a lock set or cleared, of the live elements
abbrev pub relevelling : ℕ → Rule
relevelling level = revising Living (relevelled level) (λ e. level_fields) (level_puts level)

abbrev pub locking : Bool → Rule
locking lock = revising Living (locked lock) (λ e. lock_fields e.body) (λ e. lock_puts lock e.body)

-- a deletion taken back, of each element and of the headers above, where they are marked
abbrev pub marked_fields : Element → List Stretch
marked_fields e = if e.deleted then mark_fields else []

abbrev pub marked_puts : Element → List Put
marked_puts e = if e.deleted then unmark_puts e else []

abbrev pub undeleting : Rule
undeleting = record (revising Every unmarked marked_fields marked_puts) {
  above = λ head header. unmarked header;
  over = λ p header. placed_fields p (marked_fields header);
  over_puts = λ head p header. placed_puts p (marked_puts header);
}

-- another name of the cell alone
abbrev pub renaming : List ℕ → Rule
renaming name = revising Head (renamed name) (λ e. name_fields) (λ e. name_puts name)

-- other characters in the room of a text
abbrev pub retexting : ℕ → List ℕ → Rule
retexting dim chars = revising Head (retexted chars) (λ e. text_fields dim chars) (λ e. text_puts dim chars)

-- a text in whose place a longer one comes is marked deleted
abbrev pub replacing : Rule
replacing = record deleting { reach = Head }

-- a point for a vertex: the ranges of the headers above are made to hold it too
abbrev pub pointing : ℕ → ℕ → List ℤ → Rule
pointing dim index point = record (revising Head (with_vertex dim index point) (vertex_fields dim index) (vertex_puts dim index point)) {
  above = λ head header. widen dim (range_at_point point) header;
  over = λ p header. spot_fields p (range_spots dim);
  over_puts = λ head p header. wider_puts dim (range_at_point point) p (spell header);
}

-- whether a text has room for characters
abbrev pub has_room : ℕ → List ℕ → Option Element → Bool
has_room dim chars (Some e) = if nat_lt (room dim e) (length chars) then false else true
has_room dim chars None = true

-- the row of a revision of element n
abbrev pub revision_rule : ℕ → List Element → ℕ → Revision → Rule
revision_rule dim es n (revision.Relevel level) = relevelling level
revision_rule dim es n revision.Lock = locking true
revision_rule dim es n revision.Unlock = locking false
revision_rule dim es n revision.Undelete = undeleting
revision_rule dim es n (revision.Rename name) = renaming name
revision_rule dim es n (revision.Retext chars) = if has_room dim chars (slice_get es n) then retexting dim chars else replacing
revision_rule dim es n (revision.Vertex index point axes) = pointing dim index point

-- the longer text that is made of an element
abbrev pub longer_of : ℕ → List ℕ → Option Element → List Element
longer_of dim chars (Some e) = longer_text dim chars e ∷ []
longer_of dim chars None = []

-- what a revision of element n makes behind the drawing: a text for one that has no room for its characters
abbrev pub made_behind : ℕ → List Element → ℕ → Revision → List Element
made_behind dim es n (revision.Retext chars) = if has_room dim chars (slice_get es n) then [] else longer_of dim chars (slice_get es n)
made_behind dim es n other = []
