-- Lines by their first word.
use Rattle.std.specs.Prelude.{◌≡◌, ℕ, List, Some, None, codes, Option}
use Rattle.text.specs.Items.{after}
use Rattle.forms.specs.declared.line.Line.{Line}
use Rattle.forms.specs.declared.line.Line.TheVariants.{Contents, Piece, Before, Wall}

-- the text of a line of each kind, where it is of that kind
abbrev pub contents_text : Option Line → Option (List ℕ)
contents_text None = None
contents_text (Some (Contents t)) = Some t.now
contents_text (Some (Piece t)) = None
contents_text (Some (Before t)) = None
contents_text (Some (Wall t)) = None

abbrev pub piece_text : Option Line → Option (List ℕ)
piece_text None = None
piece_text (Some (Contents t)) = None
piece_text (Some (Piece t)) = Some t.now
piece_text (Some (Before t)) = None
piece_text (Some (Wall t)) = None

abbrev pub before_text : Option Line → Option (List ℕ)
before_text None = None
before_text (Some (Contents t)) = None
before_text (Some (Piece t)) = None
before_text (Some (Before t)) = Some t.now
before_text (Some (Wall t)) = None

abbrev pub wall_text : Option Line → Option (List ℕ)
wall_text None = None
wall_text (Some (Contents t)) = None
wall_text (Some (Piece t)) = None
wall_text (Some (Before t)) = None
wall_text (Some (Wall t)) = Some t.now

-- the line is of the kind that its first word and a space say, with the text that follows
pub record Classified (body : List ℕ) (line : Option Line) : Type 0 where
  pub contents : contents_text line ≡ after (codes "sheet ") body
  pub piece : piece_text line ≡ after (codes "piece ") body
  pub before : before_text line ≡ after (codes "before ") body
  pub wall : wall_text line ≡ after (codes "wall ") body
