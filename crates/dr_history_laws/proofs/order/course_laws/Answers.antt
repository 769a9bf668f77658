use Rattle.dr_history_laws.proofs.Courses.{InOrder-course, course-steady, either-course, past-course, view-course}
use Rattle.dr_history_laws.proofs.Sizes.{short-course}
use Rattle.dr_history_laws.proofs.order.course_laws.Goals as goal

pub returns : goal.returns
returns c = record {
  order = InOrder-course;
  view = view-course;
  either = either-course;
  past = past-course;
  short = short-course;
  steady = course-steady;
}
