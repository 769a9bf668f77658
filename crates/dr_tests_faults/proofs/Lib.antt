mod Two
