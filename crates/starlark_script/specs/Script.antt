-- What was written for a script. Bytes are `None` if a reader or a writer does not say what they are. This model of a
-- script has no block, no buffer, no parser and no `String`: it takes all lines at once, and a key as its bytes.
use Rattle.std.specs.Prelude.{◌≡◌, ℕ, ◌+◌, List, [], ◌∷◌, ◌++◌, length, Option}
use Rattle.std.specs.List.{AllZip}
use Rattle.std.specs.Io.KnownBytes.{Appends}
use Rattle.starlark_script.specs.Lines.{lines_of}
use Rattle.starlark_script.specs.Line.{Line, IsTextOf, IsBad}
use Rattle.starlark_script.specs.Replies.{MayNeedMemory, entries_after, replies}

-- the writer got the replies to these lines of an empty map, and nothing else
abbrev pub Answers : Option (List ℕ) → Option (List ℕ) → List Line → Type 0
Answers old new lines = Appends old new (replies [] lines)

-- each text is the text of the line at its place
abbrev pub AreTextsOf : List (List ℕ) → List Line → Type 0
AreTextsOf texts lines = AllZip IsTextOf texts lines

-- the script begins with the texts of these lines, and the next text is this one
pub record Reaches (script : List ℕ) (lines : List Line) (text : List ℕ) : Type 0 where
  pub before : List (List ℕ)
  pub more : List (List ℕ)
  pub cut : lines_of script ≡ before ++ text ∷ more
  pub good : AreTextsOf before lines

-- every text of the script is the text of a line, and the writer got the replies to these lines
pub record IsPlayed (old new : Option (List ℕ)) (script : List ℕ) : Type 0 where
  pub lines : List Line
  pub good : AreTextsOf (lines_of script) lines
  pub written : Answers old new lines

-- the script's line of this number is the first bad one, and exactly the replies to the lines before it were written
pub record StopsAtBadLine (old new : Option (List ℕ)) (number : ℕ) (script : List ℕ) : Type 0 where
  pub lines : List Line
  pub text : List ℕ
  pub reaches : Reaches script lines text
  pub bad : IsBad text
  pub number_is : number ≡ length lines + 1
  pub written : Answers old new lines

-- exactly the replies to some first lines of the script were written, and the next line may need memory at the entries
-- after them
pub record StopsForMemory (old new : Option (List ℕ)) (script : List ℕ) : Type 0 where
  pub lines : List Line
  pub text : List ℕ
  pub line : Line
  pub reaches : Reaches script lines text
  pub good : IsTextOf text line
  pub needs : MayNeedMemory (entries_after [] lines) line
  pub written : Answers old new lines
