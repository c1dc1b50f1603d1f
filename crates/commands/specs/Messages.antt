-- The lines that the program writes in place of an answer.
use Rattle.std.specs.Prelude.{ℕ, List, [], ◌∷◌, ◌++◌, codes}
use Rattle.std.specs.Fmt.{decimal}
use Rattle.kern_ids.specs.declared.faults.Why.{Why}
use Rattle.kern_ids.specs.declared.faults.Why.TheVariants as why

abbrev pub why_word : Why → List ℕ
why_word why.Word = codes "word"
why_word why.Number = codes "number"
why_word why.Limit = codes "limit"
why_word why.Repeated = codes "repeated"
why_word why.Unknown = codes "unknown"
why_word why.WrongSide = codes "wrongside"
why_word why.NoEnd = codes "noend"
why_word why.AfterEnd = codes "afterend"
why_word why.Entry = codes "entry"
why_word why.Count = codes "count"

abbrev pub bad_words : List ℕ
bad_words = codes "jetlab: bad words" ++ 10 ∷ []

abbrev pub read_fault : List ℕ
read_fault = codes "jetlab: read fault" ++ 10 ∷ []

abbrev pub too_long : ℕ → List ℕ
too_long limit = codes "jetlab: more than " ++ decimal limit ++ codes " bytes" ++ 10 ∷ []

abbrev pub bad_line : ℕ → Why → List ℕ
bad_line number why = codes "jetlab: line " ++ decimal number ++ codes ": " ++ why_word why ++ 10 ∷ []
