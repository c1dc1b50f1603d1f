use Rattle.history_text.proofs.HistoryRead.{read_written, read_texts, read_sound, read_few, read_again}
use Rattle.history_text.proofs.history.read_history.Goals as goal

pub returns : goal.returns
returns c =
    let n = c.args.first_line in
    let r = c.read_whole.result in
    let bytes = c.args.bytes.now in
    let said = c.read_whole.ensures in
    record {
      exact = said;
      written = read_written n r bytes said;
      texts = read_texts n r bytes said;
      sound = read_sound n r bytes said;
      few = read_few n r bytes said;
      again = λ h all few e. read_again n r bytes h said all few e;
    }
