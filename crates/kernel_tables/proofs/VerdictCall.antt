-- Jetsam's verdict by the tables, and that a verdict to kill nobody changes nothing.
use Rattle.std.proofs.Common.{◌≡◌, ℕ, ◌+◌, ◌-◌, ◌<◌, List, ◌∷◌, length, None, get_or, refl, sym, ap₂, ◌∙◌, true}
use Rattle.std.specs.Prelude.{IsTrue}
use Rattle.std.proofs.lemmas.List.{length-map}
use Rattle.kern_ids.specs.declared.entries.Entry.{Entry}
use Rattle.kern_ids.specs.declared.calls.Call.TheVariants.{Jetsam}
use Rattle.kern_ids.specs.declared.replies.Reply.{Reply}
use Rattle.kernel_model.specs.System.{System}
use Rattle.kernel_model.specs.Valid.{IsValidBoot}
use Rattle.kernel_model.specs.Answers.{answer, refusal}
use Rattle.kernel_model.specs.Histories.{fits}
use Rattle.kernel_model.specs.Pages.{free, is_active, is_inactive}
use Rattle.kernel_model.specs.Victims.{victim}
use Rattle.kernel_model.specs.Laws.Kinds.{is_quiet}
use Rattle.page_queues.specs.Pages.{page_of, active as active_keys, inactive as inactive_keys, free as free_in}
use Rattle.jetsam_pick.specs.Victims.{HoldLive, verdict}
use Rattle.kernel_tables.specs.Values.{TableValues, entry_of}
use Rattle.kernel_tables.specs.Verdicts.{reply_of}
use Rattle.kernel_tables.specs.Stands.{Stands}
use Rattle.kernel_tables.proofs.Counting.{pages-count}
use Rattle.kernel_tables.proofs.Accepted.{accepted-answer}
use Rattle.kernel_tables.proofs.AskLemmas.{asked-stands}
use Rattle.kernel_tables.proofs.VerdictLemmas.{hold-live, verdict-victim, band-below}

module _ (tables : TableValues) (past : List Entry) (s : Stands tables past) where
  free-is : free_in tables.pages ≡ free tables.boot past
  unfolding free
  free-is =
      let actives = sym (length-map (active_keys tables.pages) page_of) ∙ sym (pages-count tables.boot past is_active _ s.pages.active_order) in
      let inactives = sym (length-map (inactive_keys tables.pages) page_of) ∙ sym (pages-count tables.boot past is_inactive _ s.pages.inactive_order) in
      ap₂ (λ f n. f - n) s.pages.frames (ap₂ (λ a i. a + i) actives inactives)

  module _ (valid : IsValidBoot tables.boot) (count : length tables.bands ≡ 21) (small : (t : ℕ) → get_or tables.wishes t 0 < 21) where
    pub verdict-hold : HoldLive tables.bands tables.accounts
    verdict-hold = hold-live tables.boot past tables.bands count s.bands.bands (band-below tables.boot past tables.wishes valid s.bands.wishes small) tables.accounts s.accounts

    pub verdict-is : reply_of (verdict (free_in tables.pages) tables.boot.params.critical tables.bands tables.accounts) ≡ victim tables.boot past
    verdict-is = verdict-victim tables.boot past tables.bands count s.bands.bands (band-below tables.boot past tables.wishes valid s.bands.wishes small) tables.accounts s.accounts (free_in tables.pages) tables.boot.params.critical free-is refl

pub jetsam-reply : (boot : System) (past : List Entry) (who : ℕ) (reply : Reply) → refusal boot past who Jetsam ≡ None → reply ≡ victim boot past → reply ≡ answer boot past who Jetsam
jetsam-reply boot past who reply h is = is ∙ sym (accepted-answer boot past who Jetsam h)

-- where nobody is killed the tables stand for the entry too
pub spared-stands : (tables : TableValues) (past : List Entry) (who : ℕ) (reply : Reply) → IsTrue (fits tables.boot who Jetsam) → refusal tables.boot past who Jetsam ≡ None → reply ≡ victim tables.boot past → is_quiet (entry_of who Jetsam reply) ≡ true → Stands tables past → Stands tables (entry_of who Jetsam reply ∷ past)
spared-stands tables past who reply f h is quiet s = asked-stands tables past who Jetsam reply f (jetsam-reply tables.boot past who reply h is) quiet s
