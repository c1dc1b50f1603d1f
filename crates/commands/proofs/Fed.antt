-- A check that is fed the rest of an input.
use Rattle.std.proofs.Common.{◌≡◌, ◌≤◌, ◌+◌, ◌-◌, ◌++◌, ℕ, List, [], length, take, Option, refl, sym, ap, ◌∙◌, subst, arith, length-append, append-nil, append_assoc}
use Rattle.std.specs.Io.KnownBytes.{Consumes, IsAtEnd}
use Rattle.std.proofs.KnownBytes.{Consumes-nil, Consumes-trans}
use Rattle.std.proofs.lemmas.List.{length-take}
use Rattle.kernel_model.specs.Scenario.{Plan}
use Rattle.history_text.specs.HistoryReading.{history_of}
use Rattle.replay_check.specs.declared.end.PieceEnd.{PieceEnd}
use Rattle.replay_check.specs.Pieces.{CheckView, HasRoom, StandsFor, end_of}
use Rattle.commands.proofs.Stopped.{IsTaken}
use Rattle.commands.proofs.Opened.{took-none}
use Rattle.commands.specs.Checks.{IsEnded}

-- whatever the first check stood for, the second one stands for that and these bytes
abbrev pub Takes : CheckView → CheckView → List ℕ → Type 0
Takes before now bytes = (s : Plan) (n : ℕ) (text : List ℕ) → StandsFor s n text before → StandsFor s n (text ++ bytes) now

-- bytes of the input were fed, and so many more may come
pub record IsFed (before now : CheckView) (old new : Option (List ℕ)) (most room : ℕ) : Type 0 where
  pub taken : IsTaken old new most room
  pub fits : HasRoom now room
  pub takes : Takes before now taken.bytes

pub fed-none : (check : CheckView) (old : Option (List ℕ)) (most : ℕ) → HasRoom check most → IsFed check check old old most most
fed-none check old most fits = record {
  taken = record { bytes = []; took = Consumes-nil old; count = omega arith };
  fits = fits;
  takes = λ s n text h. subst (λ (xs : List ℕ). StandsFor s n xs check) (sym (append-nil text)) h;
}

pub fed-more : (before now then : CheckView) (old mid new : Option (List ℕ)) (most room n : ℕ) (piece : List ℕ) → IsFed before now old mid most room
    → Consumes mid new (take n piece) → n ≤ length piece → n ≤ room → Takes now then (take n piece)
    → ((more : ℕ) → HasRoom now (length (take n piece) + more) → HasRoom then more) → IsFed before then old new most (room - n)
fed-more before now then old mid new most room n piece fed took within few takes fits =
    let long : length (take n piece) ≡ n = omega (arith, length-take n piece, within) in
    let same : room ≡ length (take n piece) + (room - n) = omega (arith, long, few) in
    let bytes = fed.taken.bytes in
    let count = fed.taken.count in
    record {
      taken = record {
        bytes = bytes ++ take n piece;
        took = Consumes-trans old mid new bytes (take n piece) fed.taken.took took;
        count = omega (arith, count, long, few, length-append bytes (take n piece));
      };
      fits = fits (room - n) (subst (HasRoom now) same fed.fits);
      takes = λ s k text h.
          subst (λ (xs : List ℕ). StandsFor s k xs then) (append_assoc text bytes (take n piece)) (takes s k (text ++ bytes) (fed.takes s k text h));
    }

pub fed-ended : (before now : CheckView) (found : PieceEnd) (old mid new : Option (List ℕ)) (most room n : ℕ) (piece : List ℕ) → IsFed before now old mid most room
    → Consumes mid new (take n piece) → n ≡ 0 → IsAtEnd new
    → ((s : Plan) (k : ℕ) (text : List ℕ) → StandsFor s k text now → found ≡ end_of s (history_of k text)) → IsEnded before found old new most
fed-ended before now found old mid new most room n piece fed took none whole ends =
    let bytes = fed.taken.bytes in
    let count = fed.taken.count in
    record {
      rest = bytes;
      took = took-none old mid new bytes piece n fed.taken.took took none;
      few = omega (arith, count);
      whole = whole;
      ends = λ s k text h. ends s k (text ++ bytes) (fed.takes s k text h);
    }
