mod Certain
