use Rattle.std.proofs.Common.{◌≡◌, ℕ, ◌&&◌, not, length, get_or, false}
use Rattle.page_queues.specs.Pages.{is_of_first, without_object}
use Rattle.page_queues.proofs.PageQueues.drop_object.Given as goal

-- the pages below `page` are Absent
abbrev pub invariant-loop-page : goal.invariant-loop-page
invariant-loop-page l =
    (l.self.frames ≡ l.initial.self.frames)
    × (l.self.sizes ≡ l.initial.self.sizes)
    × (length l.self.marks ≡ length l.initial.self.marks)
    × (l.self.queues ≡ without_object l.o l.page l.initial.self.queues)
    × ((key : ℕ) → get_or l.self.marks key false ≡ (get_or l.initial.self.marks key false && not (is_of_first l.o l.page key)))
